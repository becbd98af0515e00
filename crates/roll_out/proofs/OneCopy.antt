-- The copies of a periodic event among the events of a day.
use Rattle.plan_num.proofs.Common.{◌≡◌, ℕ, zero, suc, ◌+◌, ◌-◌, ◌*◌, ◌<◌, ◌≤◌, ◌⊎◌, inl, inr, arith}
use Rattle.plan_num.proofs.Common.{List, [], ◌∷◌, ◌++◌, length, map, filter, get_or, refl, ap, sym}
use Rattle.plan_num.proofs.Common.{◌∙◌, flat_map, range_with_len, enumerate_from, eq-eqb, ne_eqb}
use Rattle.plan_num.proofs.Common.{cases_lt, get_or-map, get_or_append_left, length-append}
use Rattle.plan_num.proofs.Common.{length-map, append-nil, filter-append, flat_map-map}
use Rattle.plan_num.proofs.Common.{get_or-enumerate_from, length-enumerate_from, flat_map-append}
use Rattle.std.proofs.lemmas.List.{get_or-append_right}
use Rattle.std.proofs.lemmas.List.Concat.{flat_map_single}
use Rattle.event_tables.specs.declared.expanded_event.ExpandedEvent.{ExpandedEvent}
use Rattle.roll_out.specs.declared.copies.Copies.{Copies}
use Rattle.roll_out.specs.declared.timed_event.TimedEvent.{TimedEvent}
use Rattle.roll_out.specs.DayActivities.{is_copy}
use Rattle.roll_out.specs.DayTrips.{day_event, day_events, trip_events, no_timed}
use Rattle.roll_out.specs.Plans.{PlanParts, trip_after, plan_trips, trips_by, copies_at, plan_copies, copies_by, copy_id, copy_time, no_copies}
use Rattle.plan_num.proofs.Parts.{filter_parts, map_parts, same_parts}

-- the ids of the periodic events of a run
abbrev pub run_ids : List TimedEvent → List ℕ
run_ids run = map (λ (at : TimedEvent). at.event.id) run

-- where an event is on the day
abbrev pub place_of : ExpandedEvent → ℕ × ℕ
place_of event = (event.id, event.time)

module _ (id start : ℕ) where
  -- a trip without an event has no copy of it
  pub no_copy : (n f : ℕ) (run : List TimedEvent) → run_ids run ≡ range_with_len f (length run)
      → ((id < f) ⊎ (f + length run ≤ id))
      → filter (is_copy id) (map (day_event start) (enumerate_from n run)) ≡ []
  no_copy n f [] are out = refl
  no_copy n f (at ∷ run) are out =
      let first : at.event.id ≡ f = let e = are in cc in
      let rest : run_ids run ≡ range_with_len (f + 1) (length run) = let e = are in cc in grind
      (arith, ne_eqb, no_copy (n + 1) (f + 1) run rest (further out))
    where
      further : ((id < f) ⊎ (f + suc (length run) ≤ id))
          → ((id < f + 1) ⊎ (f + 1 + length run ≤ id))
      further (inl low) = inl (omega (arith, low))
      further (inr high) = inr (omega (arith, high))

  -- and one with it has one
  pub one_copy : (n f i : ℕ) (run : List TimedEvent) → run_ids run ≡ range_with_len f (length run)
      → id ≡ f + i → i < length run
      → filter (is_copy id) (map (day_event start) (enumerate_from n run))
      ≡ day_event start (n + i, get_or run i no_timed) ∷ []
  one_copy n f i [] are at h = absurd (omega (arith, h))
  one_copy n f zero (at ∷ run) are is h = grind (arith, eq-eqb, no_copy)
  one_copy n f (suc i) (at ∷ run) are is h =
      let first : at.event.id ≡ f = let e = are in cc in
      let rest : run_ids run ≡ range_with_len (f + 1) (length run) = let e = are in cc in grind (
        arith,
        ne_eqb,
        get_or,
        one_copy (n + 1) (f + 1) i run rest (omega (arith, is)) (omega
            (arith, h)),
      )

-- ids in order are those of a first part and of a second one
first_ids : (xs ys : List ℕ) (f n : ℕ) → xs ++ ys ≡ range_with_len f n → length xs + length ys ≡ n
    → (xs ≡ range_with_len f (length xs)) × (ys ≡ range_with_len (f + length xs) (length ys))
first_ids [] ys f n are sized = grind arith
first_ids (x ∷ xs) ys f zero are sized = absurd (omega (arith, sized))
first_ids (x ∷ xs) ys f (suc n) are sized =
    let first : x ≡ f = let e = are in cc in
    let rest : xs ++ ys ≡ range_with_len (f + 1) n = let e = are in cc in grind (
      arith,
      first_ids xs
          ys (f + 1) n rest (omega (arith, sized)),
    )

module _ (period : ℕ) where
  -- the copies of an event of a plan
  plan_has : (n f i : ℕ) (plan : PlanParts) → run_ids plan.run ≡ range_with_len f (length plan.run)
      → i < length plan.run
      → map place_of (filter (is_copy (f + i)) (day_events (plan_trips period n plan)))
      ≡ map (λ k. (
        copy_id (copies_at n plan (i, get_or plan.run i no_timed)) k,
        copy_time period (copies_at n plan (i, get_or plan.run i no_timed)) k,
      )) (range_with_len 0 plan.trips)
  plan_has n f i plan are h =
      ap (λ events. map place_of (filter (is_copy (f + i)) events))
      (flat_map-map trip_events (trip_after period n plan) (range_with_len 0 plan.trips))
      ∙ ap (map place_of) (filter_parts (is_copy (f + i))
      (λ k. trip_events (trip_after period n plan k))
      (range_with_len 0 plan.trips))
      ∙ map_parts place_of (λ k. filter (is_copy (f + i))
      (trip_events (trip_after period n plan k)))
      (range_with_len 0 plan.trips)
      ∙ same_parts _ (λ k. (
        copy_id (copies_at n plan (i, get_or plan.run i no_timed)) k,
        copy_time period (copies_at n plan (i, get_or plan.run i no_timed)) k,
      ) ∷ []) one (range_with_len 0 plan.trips)
      ∙ flat_map_single _ (range_with_len 0 plan.trips)
    where
      one : (k : ℕ) → map place_of (filter (is_copy (f + i))
          (trip_events (trip_after period n plan k)))
          ≡ (
            copy_id (copies_at n plan (i, get_or plan.run i no_timed)) k,
            copy_time period (copies_at n plan (i, get_or plan.run i no_timed)) k,
          ) ∷ []
      one k = grind (arith, get_or, one_copy)

  -- no copy of an event that is not of the plan
  plan_lacks : (n f id : ℕ) (plan : PlanParts) → run_ids plan.run
      ≡ range_with_len f (length plan.run)
      → ((id < f) ⊎ (f + length plan.run ≤ id))
      → filter (is_copy id) (day_events (plan_trips period n plan)) ≡ []
  plan_lacks n f id plan are out =
      ap (filter (is_copy id)) (flat_map-map trip_events (trip_after period n plan)
      (range_with_len 0 plan.trips))
      ∙ filter_parts (is_copy id) (λ k. trip_events (trip_after period n plan k))
      (range_with_len 0 plan.trips)
      ∙ same_parts _ (λ k. []) (λ k. no_copy id (plan.start + k * period) (n + k * length plan.run)
      f plan.run are out)
      (range_with_len 0 plan.trips)
      ∙ none (range_with_len 0 plan.trips)
    where
      none : (xs : List ℕ) → flat_map {X = ℕ} {A = ExpandedEvent} (λ k. []) xs ≡ []
      none [] = refl
      none (x ∷ xs) = none xs

  abbrev plan_ids : PlanParts → List ℕ
  plan_ids plan = run_ids plan.run

  abbrev all_ids : List PlanParts → List ℕ
  all_ids plans = flat_map plan_ids plans

  -- no copy of an event before those of some plans
  plans_lack : (n f id : ℕ) (plans : List PlanParts) → all_ids plans
      ≡ range_with_len f (length (all_ids plans))
      → id < f → filter (is_copy id) (day_events (trips_by period n plans)) ≡ []
  unfolding trips_by
  plans_lack n f id [] are low = refl
  plans_lack n f id (plan ∷ plans) are low =
      let parts = first_ids (run_ids plan.run) (all_ids plans) f (length (all_ids (plan ∷ plans)))
      are
      (sym (length-append (run_ids plan.run) (all_ids plans))) in
      let size = length-map plan.run (λ (at : TimedEvent). at.event.id) in
      let mine : run_ids plan.run ≡ range_with_len f (length plan.run) = grind (arith, size) in
      let later = n + plan.trips * length plan.run in
      ap (filter (is_copy id)) (flat_map-append trip_events (plan_trips period n plan)
      (trips_by period later plans))
      ∙ filter-append (is_copy id) (day_events (plan_trips period n plan))
      (day_events (trips_by period later plans))
      ∙ ap (λ ys. ys ++ filter (is_copy id) (day_events (trips_by period later plans)))
      (plan_lacks n f id plan mine (inl low))
      ∙ plans_lack later (f + length (run_ids plan.run)) id plans parts.1 (omega (arith, low))

  abbrev told : Copies → List (ℕ × ℕ)
  told copies = map (λ k. (copy_id copies k, copy_time period copies k))
      (range_with_len 0 copies.count)

  module _ (n f i : ℕ) (plan : PlanParts) (plans : List PlanParts) (later : ℕ)
      (mine : run_ids plan.run ≡ range_with_len f (length plan.run))
      (theirs : all_ids plans ≡ range_with_len (f + length plan.run) (length (all_ids plans))) where
    abbrev firsts : List ExpandedEvent
    firsts = filter (is_copy (f + i)) (day_events (plan_trips period n plan))

    abbrev others : List ExpandedEvent
    others = filter (is_copy (f + i)) (day_events (trips_by period later plans))

    size : length (plan_copies n plan) ≡ length plan.run
    size = length-map (enumerate_from 0 plan.run) (copies_at n plan)
        ∙ length-enumerate_from 0 plan.run

    inside : i < length plan.run
        → map place_of (firsts ++ others) ≡ told
        (get_or (plan_copies n plan ++ copies_by later plans) i no_copies)
    inside h =
        let at = copies_at n plan (i, get_or plan.run i no_timed) in
        let e : 0 + i ≡ i = omega arith in
        let here : get_or (plan_copies n plan ++ copies_by later plans) i no_copies ≡ at =
        get_or_append_left (plan_copies n plan) (copies_by later plans) no_copies i
        (omega (arith, size, h))
        ∙ get_or-map (copies_at n plan) (enumerate_from 0 plan.run) i (0, no_timed) no_copies
        (omega (arith, length-enumerate_from 0 plan.run, h))
        ∙ ap (copies_at n plan) (get_or-enumerate_from 0 plan.run i (0, no_timed) h)
        ∙ ap (λ k. copies_at n plan (k, get_or plan.run i no_timed)) e in grind (
          arith,
          plans_lack,
          append-nil,
          plan_has,
        )

    outside : length plan.run ≤ i
        → map place_of (filter (is_copy (f + length plan.run + (i - length plan.run)))
        (day_events (trips_by period later plans)))
        ≡ told (get_or (copies_by later plans) (i - length plan.run) no_copies)
        → map place_of (firsts ++ others) ≡ told
        (get_or (plan_copies n plan ++ copies_by later plans) i no_copies)
    outside h next = grind (arith, plan_lacks, get_or-append_right, size)

  -- the copies of each event of plans are where they are said to be
  pub copies_are : (n f i : ℕ) (plans : List PlanParts) → all_ids plans
      ≡ range_with_len f (length (all_ids plans))
      → i < length (all_ids plans)
      → map place_of (filter (is_copy (f + i)) (day_events (trips_by period n plans)))
      ≡ told (get_or (copies_by n plans) i no_copies)
  unfolding trips_by copies_by
  copies_are n f i [] are h = absurd (omega (arith, h))
  copies_are n f i (plan ∷ plans) are h =
      let later = n + plan.trips * length plan.run in
      let whole = length-append (run_ids plan.run) (all_ids plans) in
      let parts = first_ids (run_ids plan.run) (all_ids plans) f (length (all_ids (plan ∷ plans)))
      are (sym whole) in
      let size = length-map plan.run (λ (at : TimedEvent). at.event.id) in
      let mine : run_ids plan.run ≡ range_with_len f (length plan.run) = parts.0
      ∙ ap (range_with_len f) size in
      let theirs : all_ids plans ≡ range_with_len (f + length plan.run) (length (all_ids plans)) =
      parts.1 ∙ ap (λ k. range_with_len (f + k) (length (all_ids plans))) size in
      ap (λ events. map place_of (filter (is_copy (f + i)) events))
      (flat_map-append trip_events (plan_trips period n plan) (trips_by period later plans))
      ∙ ap (map place_of) (filter-append (is_copy (f + i)) (day_events (plan_trips period n plan))
      (day_events (trips_by period later plans)))
      ∙ elim (cases_lt i (length plan.run)) [
        | inl here ↦ inside n f i plan plans later mine theirs here
        | inr far ↦ outside n f i plan plans later mine theirs far
            (copies_are later (f + length plan.run) (i - length plan.run) plans theirs
            (omega (arith, whole, size, h, far)))
      ]
