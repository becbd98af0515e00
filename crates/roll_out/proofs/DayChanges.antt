-- The changes of a day, by where the copies of periodic events are.
use Rattle.plan_num.proofs.Common.{◌≡◌, ℕ, ◌+◌, ◌-◌, ◌≤◌, ◌==◌, arith, cond, All, List, [], ◌∷◌}
use Rattle.plan_num.proofs.Common.{length, map, filter, refl, ap, sym, ◌∙◌, flat_map}
use Rattle.plan_num.proofs.Common.{range_with_len, All-head, All-tail, flat_map-map}
use Rattle.plan_num.proofs.Common.{length-range_with_len, map-map}
use Rattle.event_tables.specs.declared.expanded_activity.ExpandedActivity.{ExpandedActivity}
use Rattle.event_tables.specs.declared.expanded_event.ExpandedEvent.{ExpandedEvent}
use Rattle.event_tables.specs.declared.periodic_activity.PeriodicActivity.{PeriodicActivity}
use Rattle.roll_out.specs.declared.copies.Copies.{Copies}
use Rattle.roll_out.specs.DayActivities.{change_copy, is_change, is_copy, changes_from, change_copies, day_changes}
use Rattle.roll_out.specs.DayTrips.{day_events}
use Rattle.roll_out.specs.Plans.{PlanParts, ArePlans, IsBetween, trips_by, copies_by, copies_with, copy_id, copy_time, ids_at, changes_at, changes_by, changes_if}
use Rattle.roll_out.specs.TimedRuns.{TimedParts, minutes_of}
use Rattle.plan_num.proofs.Parts.{filter_both, filter_map_is, same_parts, parts_where}
use Rattle.roll_out.proofs.OneCopy.{place_of, copies_are}

pub same_for : {A X : Type 0} (P : A → Type 0) (f g : A → List X) → ((x : A) → P x → f x ≡ g x)
    → (xs : List A)
    → All P xs → flat_map f xs ≡ flat_map g xs
same_for P f g same [] all = refl
same_for P f g same (x ∷ xs) all =
    grind (arith, All-head, All-tail, same_for P f g same xs (All-tail P x xs all))

module _ (network : TimedParts) (events : List ExpandedEvent) (copies : List Copies)
    (activity : PeriodicActivity)
  where
    abbrev minutes : ℕ
    minutes = minutes_of network activity

    abbrev pairs : Copies → List (ℕ × ℕ)
    pairs some = map (λ k. (copy_id some k, copy_time network.period some k))
        (range_with_len 0 some.count)

    abbrev heads : List ExpandedEvent
    heads = filter (is_copy activity.to) events

    -- the copies from a copy of the tail at a place, to copies of the head at some places
    abbrev onto : List (ℕ × ℕ) → ℕ × ℕ → List ExpandedActivity
    onto places from =
        map (λ (to : ℕ × ℕ). change_copy activity from.0 to.0)
        (filter (λ (to : ℕ × ℕ). to.1 == from.1 + minutes) places)

    by_places : (tail : ExpandedEvent)
        → changes_from network events activity tail ≡ onto (map place_of heads) (place_of tail)
    by_places tail =
        let test = λ (head : ExpandedEvent). head.time == tail.time + minutes in
        ap (map (λ (head : ExpandedEvent). change_copy activity tail.id head.id))
        (filter_both (is_copy activity.to) test events)
        ∙ sym (map-map (λ (to : ℕ × ℕ). change_copy activity tail.id to.0) place_of (filter test heads))
        ∙ ap (map (λ (to : ℕ × ℕ). change_copy activity tail.id to.0))
        (sym (filter_map_is (λ (to : ℕ × ℕ). to.1 == tail.time + minutes) place_of heads))

    onto_pairs : (to from : Copies) (k : ℕ)
        → onto (pairs to) (copy_id from k, copy_time network.period from k)
        ≡ map (change_copy activity (copy_id from k))
        (ids_at network.period to (copy_time network.period from k + minutes))
    onto_pairs to from k = grind (arith, filter_map_is, map-map)

    -- the copies of a change, where the places of its tail and of its head are known
    pub change_same : map place_of (filter (is_copy activity.from) events)
        ≡ pairs (copies_with copies activity.from)
        → map place_of heads ≡ pairs (copies_with copies activity.to)
        → changes_by network copies activity ≡ change_copies network events activity
    change_same from to =
        let tail = copies_with copies activity.from in
        let head = copies_with copies activity.to in
        let tails = filter (is_copy activity.from) events in
        sym (same_parts (changes_from network events activity)
        (λ at. onto (map place_of heads) (place_of at)) by_places tails
        ∙ sym (flat_map-map (onto (map place_of heads)) place_of tails)
        ∙ ap (flat_map (onto (map place_of heads))) from
        ∙ ap (λ places. flat_map (onto places) (pairs tail)) to
        ∙ flat_map-map (onto (pairs head)) (λ k. (copy_id tail k, copy_time network.period tail k))
        (range_with_len 0 tail.count)
        ∙ same_parts (λ k. onto (pairs head) (copy_id tail k, copy_time network.period tail k))
        (changes_at network copies activity) (onto_pairs head tail) (range_with_len 0 tail.count))

module _ (network : TimedParts) (plans : List PlanParts) (are : ArePlans network plans) where
  abbrev events : List ExpandedEvent
  events = day_events (trips_by network.period 1 plans)

  abbrev copies : List Copies
  copies = copies_by 1 plans

  places_at : (id : ℕ) → 1 ≤ id → id ≤ length network.events
      → map place_of (filter (is_copy id) events)
      ≡ map (λ k. (
        copy_id (copies_with copies id) k,
        copy_time network.period
            (copies_with copies id) k,
      ))
      (range_with_len 0 (copies_with copies id).count)
  places_at id low high =
      let e : id ≡ 1 + (id - 1) = omega (arith, low) in grind (
        arith,
        length-range_with_len,
        place_of,
        copies_are,
      )

  one_change : (activity : PeriodicActivity) → IsBetween network activity
      → changes_if network copies activity
      ≡ cond (is_change activity) (change_copies network events activity) []
  one_change activity is = grind (arith, change_same, places_at)

  -- the changes by the copies of plans are those of the day
  pub changes_are : All (IsBetween network) network.activities
      → flat_map (changes_if network copies) network.activities ≡ day_changes network events
  changes_are between =
      same_for (IsBetween network) (changes_if network copies)
      (λ activity. cond (is_change activity) (change_copies network events activity) []) one_change
      network.activities between
      ∙ parts_where is_change (change_copies network events) network.activities
