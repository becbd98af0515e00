-- Trips, copies and timed events that are added one by one.
use Rattle.plan_num.proofs.Common.{◌≡◌, ℕ, ◌+◌, ◌*◌, ◌<◌, ◌≤◌, arith, List, [], ◌∷◌, ◌++◌, length}
use Rattle.plan_num.proofs.Common.{drop, get_or, refl, ap, sym, ◌∙◌, Option, append_assoc}
use Rattle.plan_num.proofs.Common.{append-nil, at_drop_more, at_drop_all}
use Rattle.std.proofs.lemmas.List.Sums.{sum_by-drop_more}
use Rattle.event_tables.specs.declared.periodic_event.PeriodicEvent.{PeriodicEvent}
use Rattle.event_tables.specs.declared.periodic_activity.PeriodicActivity.{PeriodicActivity}
use Rattle.roll_out.specs.declared.timed_event.TimedEvent.{TimedEvent}
use Rattle.roll_out.specs.Plans.{PlanParts, trip_after, copies_at, plan_trips, plan_copies, trips_by, copies_by, event_total}
use Rattle.roll_out.specs.TimedRuns.{TimedParts, timed_from, way_on, minutes_on}

-- a trip by its parts
pub trip_is : (period first earlier size start : ℕ) (run : List TimedEvent) (plan : PlanParts)
    → size ≡ length plan.run → start ≡ plan.start → run ≡ plan.run
    → record { first = first + earlier * size; start = start + earlier * period; run = run }
    ≡ trip_after period first plan earlier
trip_is period first earlier size start run plan a b c =
    λ i. record { first = first + earlier * a i; start = b i + earlier * period; run = c i }

-- copies by their parts
pub copies_is : (first place step start count : ℕ) (at : TimedEvent) (plan : PlanParts)
    → step ≡ length plan.run → start ≡ plan.start + at.minutes → count ≡ plan.trips
    → record { first = first + place; step = step; start = start; count = count }
    ≡ copies_at first plan (0 + place, at)
copies_is first place step start count at plan a b c = grind arith

-- what is left moves into what is done
module _ {X Y : Type 0} (rest : ℕ → List X → List Y) (part : ℕ → X → List Y) (size : X → ℕ)
    (more : (n : ℕ) (x : X) (xs : List X) → rest n (x ∷ xs) ≡ part n x ++ rest (n + size x) xs)
    (none : (n : ℕ) → rest n [] ≡ [])
    (xs : List X) (all now : List Y) (n i : ℕ) (so_far : now ++ rest n (drop i xs) ≡ all) where
  pub moved : (after : List Y) (x : X) (more_size : ℕ) → i < length xs → x ≡ get_or xs i x
      → more_size ≡ size x → after ≡ now ++ part n x
      → after ++ rest (n + more_size) (drop (i + 1) xs) ≡ all
  moved after x more_size h is sized add =
      ap (λ m. after ++ rest (n + m) (drop (i + 1) xs)) sized
      ∙ ap (λ ys. ys ++ rest (n + size x) (drop (i + 1) xs)) add
      ∙ append_assoc now (part n x) (rest (n + size x) (drop (i + 1) xs))
      ∙ ap (λ ys. now ++ ys) (sym (more n x (drop (i + 1) xs)))
      ∙ ap (λ y. now ++ rest n (y ∷ drop (i + 1) xs)) is
      ∙ ap (λ ys. now ++ ys) (sym (at_drop_more (rest n) xs i x h)) ∙ so_far

  pub all_moved : length xs ≤ i → now ≡ all
  all_moved h =
      sym (append-nil now) ∙ ap (λ ys. now ++ ys) (sym (none n) ∙ sym (at_drop_all (rest n) xs i h))
      ∙ so_far

abbrev pub plan_size : PlanParts → ℕ
plan_size plan = plan.trips * length plan.run

pub trips_more : (period n : ℕ) (plan : PlanParts) (plans : List PlanParts)
    → trips_by period n (plan ∷ plans) ≡ plan_trips period n plan
    ++ trips_by period (n + plan_size plan) plans
unfolding trips_by
trips_more period n plan plans = refl

pub trips_none : (period n : ℕ) → trips_by period n [] ≡ []
unfolding trips_by
trips_none period n = refl

pub copies_more : (n : ℕ) (plan : PlanParts) (plans : List PlanParts)
    → copies_by n (plan ∷ plans) ≡ plan_copies n plan ++ copies_by (n + plan_size plan) plans
unfolding copies_by
copies_more n plan plans = refl

pub copies_none : (n : ℕ) → copies_by n [] ≡ []
unfolding copies_by
copies_none n = refl

module _ (network : TimedParts) where
  -- one timed event more
  pub timed_moved : (run : List PeriodicEvent) (now after all : List TimedEvent)
      (minutes more i : ℕ)
      (way : Option PeriodicActivity) (d : PeriodicEvent)
      → now ++ timed_from network minutes (drop i run) ≡ all → i < length run
      → way ≡ way_on network (get_or run i d) (drop (i + 1) run)
      → more ≡ minutes_on network way
      → after ≡ now ++ record { event = get_or run i d; minutes = minutes; way = way } ∷ []
      → after ++ timed_from network (minutes + more) (drop (i + 1) run) ≡ all
  unfolding timed_from
  timed_moved run now after all minutes more i way d so_far h leads takes add =
      let event = get_or run i d in
      let rest = drop (i + 1) run in
      ap (λ ys. ys ++ timed_from network (minutes + more) rest) add
      ∙ append_assoc now (record { event = event; minutes = minutes; way = way } ∷ [])
      (timed_from network (minutes + more) rest)
      ∙ ap (λ m. now ++ record { event = event; minutes = minutes; way = way }
      ∷ timed_from network (minutes + m) rest) takes
      ∙ ap (λ w. now ++ record { event = event; minutes = minutes; way = w }
      ∷ timed_from network (minutes + minutes_on network w) rest) leads
      ∙ ap (λ ys. now ++ ys) (sym (at_drop_more (timed_from network minutes) run i d h))
      ∙ so_far

  pub timed_none : (minutes : ℕ) → timed_from network minutes [] ≡ []
  unfolding timed_from
  timed_none minutes = refl

-- the ids of what is left
pub total_left : (plans : List PlanParts) (i n more : ℕ) (plan : PlanParts) (all : ℕ) → i
    < length plans
    → plan ≡ get_or plans i plan → more ≡ plan_size plan
    → n + event_total (drop i plans) ≡ all → n + more + event_total (drop (i + 1) plans) ≡ all
total_left plans i n more plan all h is sized so_far = grind (arith, sum_by-drop_more, get_or)
