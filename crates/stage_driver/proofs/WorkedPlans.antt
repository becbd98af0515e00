-- For each promise on plans one plan that keeps it and one that does not, small enough to be done in the
-- head.
use Rattle.plan_num.proofs.Common.{arith, ◌≡◌, ◌≤◌, ◌<◌, ℕ, ℤ, pos, suc, Bool, true, false, cond}
use Rattle.plan_num.proofs.Common.{List, [], ◌∷◌, Option, Some, None}
use Rattle.plan_num.proofs.Common.{ints, is_some, refl, subst, same_Some, false≢true}
use Rattle.std.specs.Prelude.{All, zero, ◌+◌, ◌%◌}
use Rattle.line_cost_model.specs.declared.edge.BoundedEdge.{BoundedEdge}
use Rattle.line_cost_model.specs.Problems.{CostedLine, ProblemParts}
use Rattle.line_cost_model.specs.Concepts.{IsFeasible as IsConcept, cost_of, is_feasible}
use Rattle.line_cost_model.proofs.Feasible.{test_means}
use Rattle.pesp.specs.declared.activity.PespActivity.{PespActivity}
use Rattle.pesp.specs.Timetables.{IsKept, IsTimetable, Problem}
use Rattle.link_plans.specs.Links.{Links}
use Rattle.link_plans.specs.Plans.{IsPlan, next}
use Rattle.propagation.specs.declared.day_event.DayEvent.{DayEvent}
use Rattle.propagation.specs.declared.step.Activity.{Activity}
use Rattle.propagation.specs.LeastTimes.{IsFeasible, IsLeast, asked, time_at}
use Rattle.propagation.specs.Problems.{DelayProblem, earliest_at, steps_with}
use Rattle.propagation.specs.Waiting.{IsDisposition, is_kept}

-- ---- line concepts: `IsFeasible` of `line_cost_model`, and the least cost

-- Two edges in a row. The first is to be driven two or three times in a period, the second one to three
-- times. The first line goes over both and costs 15, the second one over the first edge and costs 12.
abbrev bounded : ℕ → ℕ → ℕ → BoundedEdge
bounded id least most = record { id = pos id; least = least; most = most }

abbrev line : ℕ → ℕ → List ℕ → CostedLine
line id cost edges = record { id = pos id; cost = cost; edges = edges }

abbrev pub three_stops : ProblemParts
three_stops = record {
  edges = bounded 1 2 3 ∷ bounded 2 1 3 ∷ [];
  lines = line 1 15000000 (0 ∷ 1 ∷ []) ∷ line 2 12000000 (0 ∷ []) ∷ [];
}

-- each line once: the first edge is driven twice, the second one once
pub concept_is_feasible : IsConcept three_stops (1 ∷ 1 ∷ [])
unfolding is_feasible
concept_is_feasible = (test_means three_stops (1 ∷ 1 ∷ []) true refl).0 refl

-- the first line alone, once: the first edge is driven once only
concept_is_too_thin : ¬ IsConcept three_stops (1 ∷ 0 ∷ [])
unfolding is_feasible
concept_is_too_thin is =
    absurd (false≢true ((test_means three_stops (1 ∷ 0 ∷ []) false refl).1 is))

-- no frequency for the second line
concept_is_too_short : ¬ IsConcept three_stops (2 ∷ [])
unfolding is_feasible
concept_is_too_short is =
    absurd (false≢true ((test_means three_stops (2 ∷ []) false refl).1 is))

-- no feasible concept costs less than each line once
pub concept_is_cheapest : (f g : ℕ) → IsConcept three_stops (f ∷ g ∷ [])
    → cost_of three_stops (1 ∷ 1 ∷ []) ≤ cost_of three_stops (f ∷ g ∷ [])
concept_is_cheapest f g is =
    let first = (is.bounds 0 (bounded 1 2 3) refl).enough in
    let second = (is.bounds 1 (bounded 2 1 3) refl).enough in omega (arith, first, second)

-- the first line twice is feasible and costs more, so it is not cheapest
concept_is_dearer : ¬ ((f g : ℕ) → IsConcept three_stops (f ∷ g ∷ [])
    → cost_of three_stops (2 ∷ 0 ∷ []) ≤ cost_of three_stops (f ∷ g ∷ []))
concept_is_dearer least =
    let dearer : cost_of three_stops (2 ∷ 0 ∷ []) ≤ cost_of three_stops (1 ∷ 1 ∷ []) =
    least 1 1 concept_is_feasible in omega (arith, dearer)

-- ---- periodic timetables: `IsTimetable` of `pesp`

-- A period of 10 minutes, and one drive of 3 to 5 minutes from the first event to the second one.
abbrev drive : PespActivity
drive = record { from = 0; to = 1; lower = pos 3; upper = pos 5 }

abbrev one_drive : Problem
one_drive = record { period = 10; events = 2; activities = drive ∷ [] }

-- from minute 8 to minute 2 of the next period it takes 4 minutes
timetable_is_one : IsTimetable one_drive (8 ∷ 2 ∷ [])
timetable_is_one = record { each = refl; within = within; kept = kept }
  where
    within : All (λ time. time < 10) (8 ∷ 2 ∷ [])
    within zero time there = grind (arith, there)
    within (suc zero) time there = grind (arith, there)
    within (suc (suc more)) time there = grind (arith, there)

    kept : All (IsKept 10 (8 ∷ 2 ∷ [])) (drive ∷ [])
    kept zero activity there =
        record { minutes = 4; leads = refl; enough = grind (arith, ints); short = grind (arith, ints) }
    kept (suc more) activity there = grind (arith, there)

-- from minute 8 to minute 5 it takes 7 minutes, or 17
timetable_is_none : ¬ IsTimetable one_drive (8 ∷ 5 ∷ [])
timetable_is_none is =
    let own = is.kept 0 drive (omega arith) in
    let leads : (8 + own.minutes) % 10 ≡ 5 = own.leads in grind (arith, ints, own, leads)

-- ---- vehicle schedules: `IsPlan` of `link_plans`

-- Two trips. The second one may follow the first one, and no other may follow another.
abbrev gains : ℕ → ℕ → Option ℤ
gains zero (suc zero) = Some (pos 5)
gains _ _ = None

abbrev two_trips : Links
two_trips = record { count = 2; gain = gains }

-- one vehicle drives both
plan_is_one : IsPlan two_trips (Some 1 ∷ None ∷ [])
plan_is_one = record { each = refl; follow = follow; once = once }
  where
    follow : (i j : ℕ) → next (Some 1 ∷ None ∷ []) i ≡ Some j → is_some (gains i j) ≡ true
    follow zero j there = subst (λ j. is_some (gains 0 j) ≡ true) (same_Some _ _ there) refl
    follow (suc zero) j there = grind (arith, there)
    follow (suc (suc more)) j there = grind (arith, there)

    once : (i other j : ℕ) → next (Some 1 ∷ None ∷ []) i ≡ Some j
        → next (Some 1 ∷ None ∷ []) other ≡ Some j → i ≡ other
    once zero zero j there again = refl
    once zero (suc zero) j there again = grind (arith, again)
    once zero (suc (suc more)) j there again = grind (arith, again)
    once (suc zero) other j there again = grind (arith, there)
    once (suc (suc more)) other j there again = grind (arith, there)

-- the first trip may not follow the second one
plan_is_none : ¬ IsPlan two_trips (None ∷ Some 0 ∷ [])
plan_is_none is = absurd (false≢true (is.follow 1 0 refl))

-- ---- days with delays: `IsFeasible`, `IsLeast` and `IsDisposition` of `propagation`

-- Two trips with a change between them. The first one is to depart at 0 and is 5 minutes late; it takes 8
-- minutes and arrives at 10. The change takes 2 minutes, to a departure at 13, which takes 7 minutes and
-- arrives at 20.
abbrev event : ℕ → Bool → ℕ → DayEvent
event id arrives time = record { id = id; arrives = arrives; time = time }

abbrev activity : ℕ → ℕ → ℕ → ℕ → Activity
activity id from to lower =
    record { id = id; step = record { from = from; to = to; lower = lower; extra = 0 } }

abbrev change : Activity
change = activity 3 1 2 2

abbrev late_day : DelayProblem
late_day = record {
  events = event 1 false 0 ∷ event 2 true 10 ∷ event 3 false 13 ∷ event 4 true 20 ∷ [];
  earliest = 5 ∷ 10 ∷ 13 ∷ 20 ∷ [];
  rides = activity 1 0 1 8 ∷ activity 2 2 3 7 ∷ [];
  changes = change ∷ [];
  turns = [];
}

-- where the change is kept, its departure is not at 14, since who changes is there at 15
times_are_too_early : ¬ IsFeasible late_day (change ∷ []) (5 ∷ 13 ∷ 14 ∷ 22 ∷ [])
times_are_too_early is =
    let step : 15 ≤ 14 = is.steps 2 change.step (omega arith) in omega (arith, step)

-- times give each step its minutes, where some changes are kept
abbrev Meets : List Activity → List ℕ → Type 0
Meets kept times = All (λ step. asked times step ≤ time_at times step.to) (steps_with late_day kept)

-- the least times where no change is kept
abbrev times_alone : List ℕ
times_alone = 5 ∷ 13 ∷ 13 ∷ 20 ∷ []

-- where the change is dropped: the first trip arrives at 13, and the second one is on time
times_are_least : IsLeast late_day [] times_alone
times_are_least = record {
  feasible = record { each = refl; earliest = soon; steps = kept };
  least = below;
}
  where
    soon : (event : ℕ) → event < 4 → earliest_at late_day event ≤ time_at times_alone event
    soon zero less = omega arith
    soon (suc zero) less = omega arith
    soon (suc (suc zero)) less = omega arith
    soon (suc (suc (suc zero))) less = omega arith
    soon (suc (suc (suc (suc more)))) less = absurd (omega (arith, less))

    kept : Meets [] times_alone
    kept zero step there = grind (arith, there)
    kept (suc zero) step there = grind (arith, there)
    kept (suc (suc more)) step there = grind (arith, there)

    below : (others : List ℕ) → IsFeasible late_day [] others → (event : ℕ) → event < 4
        → time_at times_alone event ≤ time_at others event
    below others is zero less = is.earliest 0 (omega arith)
    below others is (suc zero) less =
        let start = is.earliest 0 (omega arith) in
        let step = is.steps 0 (activity 1 0 1 8).step (omega arith) in omega (arith, start, step)
    below others is (suc (suc zero)) less = is.earliest 2 (omega arith)
    below others is (suc (suc (suc zero))) less = is.earliest 3 (omega arith)
    below others is (suc (suc (suc (suc more)))) less = absurd (omega (arith, less))

-- a minute later at the last event is not least
times_are_too_late : ¬ IsLeast late_day [] (5 ∷ 13 ∷ 13 ∷ 21 ∷ [])
times_are_too_late is =
    let step : 21 ≤ 20 = is.least times_alone times_are_least.feasible 3 (omega arith) in
    omega (arith, step)

-- the least times where the change is kept
abbrev times_kept : List ℕ
times_kept = 5 ∷ 13 ∷ 15 ∷ 22 ∷ []

-- where it is kept: who changes is there at 15, so the second trip is 2 minutes late
kept_are_least : IsLeast late_day (change ∷ []) times_kept
kept_are_least = record {
  feasible = record { each = refl; earliest = soon; steps = kept };
  least = below;
}
  where
    soon : (event : ℕ) → event < 4 → earliest_at late_day event ≤ time_at times_kept event
    soon zero less = omega arith
    soon (suc zero) less = omega arith
    soon (suc (suc zero)) less = omega arith
    soon (suc (suc (suc zero))) less = omega arith
    soon (suc (suc (suc (suc more)))) less = absurd (omega (arith, less))

    kept : Meets (change ∷ []) times_kept
    kept zero step there = grind (arith, there)
    kept (suc zero) step there = grind (arith, there)
    kept (suc (suc zero)) step there = grind (arith, there)
    kept (suc (suc (suc more))) step there = grind (arith, there)

    below : (others : List ℕ) → IsFeasible late_day (change ∷ []) others → (event : ℕ) → event < 4
        → time_at times_kept event ≤ time_at others event
    below others is zero less = is.earliest 0 (omega arith)
    below others is (suc zero) less =
        let start = is.earliest 0 (omega arith) in
        let ride = is.steps 0 (activity 1 0 1 8).step (omega arith) in omega (arith, start, ride)
    below others is (suc (suc zero)) less =
        let start = is.earliest 0 (omega arith) in
        let ride = is.steps 0 (activity 1 0 1 8).step (omega arith) in
        let over = is.steps 2 change.step (omega arith) in omega (arith, start, ride, over)
    below others is (suc (suc (suc zero))) less =
        let start = is.earliest 0 (omega arith) in
        let ride = is.steps 0 (activity 1 0 1 8).step (omega arith) in
        let over = is.steps 2 change.step (omega arith) in
        let last = is.steps 1 (activity 2 2 3 7).step (omega arith) in
        omega (arith, start, ride, over, last)
    below others is (suc (suc (suc (suc more)))) less = absurd (omega (arith, less))

-- departures wait 3 minutes: who changes is there at 15, and 13 and 3 are 16, so the change is kept
disposition_is_one : IsDisposition late_day (pos 3) times_kept
disposition_is_one =
    record { alone = times_alone; alone_least = times_are_least; least = kept_are_least }

-- a minute later at the last event is no disposition, whether the change is kept or not
disposition_is_late : ¬ IsDisposition late_day (pos 3) (5 ∷ 13 ∷ 15 ∷ 23 ∷ [])
disposition_is_late is = by_change (is_kept late_day (pos 3) is.alone change) is.least
  where
    by_change : (keeps : Bool) → IsLeast late_day (cond keeps (change ∷ []) [])
        (5 ∷ 13 ∷ 15 ∷ 23 ∷ []) → ⊥
    by_change true least =
        let last : 23 ≤ 22 = least.least times_kept kept_are_least.feasible 3 (omega arith) in
        omega (arith, last)
    by_change false least =
        let last : 23 ≤ 20 = least.least times_alone times_are_least.feasible 3 (omega arith) in
        omega (arith, last)
