-- Parts that pass the test make a problem.
use Rattle.plan_num.proofs.Common.{◌≡◌, ◌∙◌, ℕ, ◌+◌, ◌<◌, ◌≤◌, ◌&&◌, nat_eq, nat_le, nat_lt, Bool}
use Rattle.plan_num.proofs.Common.{true, List, length, map, drop, zip, get_or, All, ap, sym, subst}
use Rattle.plan_num.proofs.Common.{arith, list_all, range_with_len, IsStrictlyIncreasing, and_parts}
use Rattle.plan_num.proofs.Common.{eqb-true, leb-true, ltb-true, ext_get_or, get_or-drop}
use Rattle.plan_num.proofs.Common.{get_or-map, length-drop, length-map, All-append}
use Rattle.plan_num.proofs.Common.{get_or-range_with_len, length-range_with_len}
use Rattle.plan_num.proofs.Common.{AllPass-from_list_all, get_or-zip, length-zip}
use Rattle.propagation.specs.declared.day_event.DayEvent.{DayEvent}
use Rattle.propagation.specs.declared.step.Activity.{Activity}
use Rattle.propagation.specs.declared.step.Step.{Step}
use Rattle.propagation.specs.CheckedDays.{are_events, are_few, are_steps, goes_on, is_activity, is_day, is_placed}
use Rattle.propagation.specs.CheckedDays.{is_rising, is_soon, is_step, joins}
use Rattle.propagation.specs.DayEvents.{AreNumbered, no_event, stands_before}
use Rattle.propagation.specs.LeastTimes.{time_at}
use Rattle.propagation.specs.Links.{GainsLittle, IsDay}
use Rattle.propagation.specs.Problems.{DelayProblem, GoesForward, event_at, minutes, planned_at}
use Rattle.propagation.proofs.PassIsLeast.{steps_all}

-- ---- steps

module _ (events : List DayEvent) where
  module _ (step : Step) (is : is_step events step ≡ true) where
    both : (joins (length events) step ≡ true) × (goes_on events step ≡ true)
    both = and_parts (joins (length events) step) (goes_on events step) is

    ends : (nat_lt step.from (length events) ≡ true) × (nat_lt step.to (length events) ≡ true)
    ends = and_parts (nat_lt step.from (length events)) (nat_lt step.to (length events)) both.0

    on : (stands_before (event_at events step.from) (event_at events step.to) ≡ true)
        × (nat_le (planned_at events step.from + minutes step) (planned_at events step.to + 1100000) ≡ true)
    on = grind (arith, and_parts, nat_le, both)

    step_forward : GoesForward events step
    step_forward = grind (arith, ltb-true, ends, on)

    step_gains : GainsLittle events step
    step_gains = grind (arith, leb-true, on)

  module _ (activities : List Activity)
      (are : list_all (is_activity events) activities ≡ true) where
    parts : (k : ℕ) (d : Activity) → k < length activities
        → (nat_le (get_or activities k d).id 500000 ≡ true)
        × (is_step events (get_or activities k d).step ≡ true)
    parts k d inside = grind (arith, and_parts, nat_le, get_or, activities, AllPass-from_list_all)

    some_ids : All (λ activity. activity.id ≤ 500000) activities
    some_ids k d inside = leb-true (get_or activities k d).id 500000 (parts k d inside).0

    some_forward : All (λ activity. GoesForward events activity.step) activities
    some_forward k d inside = step_forward (get_or activities k d).step (parts k d inside).1

    some_gain : All (λ activity. GainsLittle events activity.step) activities
    some_gain k d inside = step_gains (get_or activities k d).step (parts k d inside).1

-- ---- changes by their ids

rises : (changes : List Activity) → is_rising changes ≡ true
    → IsStrictlyIncreasing (map (λ change. change.id) changes)
rises changes are k within =
    let none : Activity = record { id = 0; step = record { from = 0; to = 0; lower = 0; extra = 0 } } in
    let long = length-map changes (λ (change : Activity). change.id) in
    let inside : k + 1 < length changes = omega (arith, within, long) in
    let behind : k < length (drop 1 changes) = omega (arith, inside, length-drop 1 changes) in
    let low : k < length changes = omega (arith, inside) in
    let first = get_or-map (λ (change : Activity). change.id) changes k none 0 low in
    let second = get_or-map (λ (change : Activity). change.id) changes (k + 1) none 0 inside in
    let next : 1 + k ≡ k + 1 = omega arith in
    let pair : get_or (zip changes (drop 1 changes)) k (none, none)
    ≡ (get_or changes k none, get_or changes (k + 1) none)
    = get_or-zip changes (drop 1 changes) k (none, none) low behind
    ∙ (λ i. (get_or changes k none, (get_or-drop 1 changes k none ∙ ap (λ n. get_or changes n none) next) i)) in
    let less = AllPass-from_list_all (λ (pair : Activity × Activity). nat_lt pair.0.id pair.1.id)
    (zip changes (drop 1 changes)) are k (none, none)
    (omega (arith, length-zip changes (drop 1 changes), low, behind)) in
    let up = ltb-true (get_or changes k none).id (get_or changes (k + 1) none).id
    (subst (λ (pair : Activity × Activity). nat_lt pair.0.id pair.1.id ≡ true) pair less) in
    omega (arith, first, second, up)

-- ---- all of it

module _ (problem : DelayProblem) (passes : is_day problem ≡ true) where
  all : (are_few problem ≡ true) × ((are_events problem && are_steps problem) ≡ true)
  all = and_parts (are_few problem) (are_events problem && are_steps problem) passes

  others : (are_events problem ≡ true) × (are_steps problem ≡ true)
  others = and_parts (are_events problem) (are_steps problem) all.1

  counted : ((nat_le (length problem.events) 100000 && nat_eq (length problem.earliest) (length problem.events)) ≡ true)
      × ((nat_le (length problem.changes) 500000
      && nat_le (length problem.rides + (length problem.turns + length problem.changes)) 502000) ≡ true)
  counted = grind (arith, and_parts, nat_le, nat_eq, all)

  few : (nat_le (length problem.events) 100000 ≡ true)
      × (nat_eq (length problem.earliest) (length problem.events) ≡ true)
  few = grind (arith, and_parts, nat_le, nat_eq, counted)

  few_more : (nat_le (length problem.changes) 500000 ≡ true)
      × (nat_le (length problem.rides + (length problem.turns + length problem.changes)) 502000 ≡ true)
  few_more = grind (arith, and_parts, nat_le, counted)

  abbrev n : ℕ
  n = length problem.events

  abbrev placed : ℕ → Bool
  placed = is_placed problem.events problem.earliest

  timed : (list_all placed (range_with_len 0 n) ≡ true) × (list_all is_soon problem.earliest ≡ true)
  timed = and_parts (list_all placed (range_with_len 0 n)) (list_all is_soon problem.earliest) others.0

  at_place : (event : ℕ) → event < n → placed event ≡ true
  at_place event inside =
      let here : 0 + event ≡ event = omega arith in
      let long = length-range_with_len 0 n in
      subst (λ k. placed k ≡ true) (get_or-range_with_len 0 n event 0 inside ∙ here)
      (AllPass-from_list_all placed (range_with_len 0 n) timed.0 event 0 (omega (arith, inside, long)))

  place_parts : (event : ℕ) → event < n
      → (nat_eq (event_at problem.events event).id (event + 1) ≡ true)
      × (nat_le (planned_at problem.events event) (time_at problem.earliest event) ≡ true)
  place_parts event inside =
      and_parts (nat_eq (event_at problem.events event).id (event + 1))
      (nat_le (planned_at problem.events event) (time_at problem.earliest event)) (at_place event inside)

  numbered : AreNumbered (λ event. event.id) problem.events
  numbered =
      let ids = map (λ (event : DayEvent). event.id) problem.events in
      let long = length-map problem.events (λ (event : DayEvent). event.id) in
      let size = length-range_with_len 1 n in
      ext_get_or 0 ids (range_with_len 1 n) (omega (arith, long, size))
      (λ event inside.
      let low : event < n = omega (arith, inside, long) in
      let place : 1 + event ≡ event + 1 = omega arith in
      get_or-map (λ (event : DayEvent). event.id) problem.events event no_event 0 low
      ∙ eqb-true (event_at problem.events event).id (event + 1) (place_parts event low).0
      ∙ sym (get_or-range_with_len 1 n event 0 low ∙ place))

  kinds : ((list_all (is_activity problem.events) problem.rides
      && list_all (is_activity problem.events) problem.changes) ≡ true)
      × ((list_all (is_step problem.events) problem.turns && is_rising problem.changes) ≡ true)
  kinds = grind (arith, and_parts, others)

  activities : (list_all (is_activity problem.events) problem.rides ≡ true)
      × (list_all (is_activity problem.events) problem.changes ≡ true)
  activities = grind (arith, and_parts, kinds)

  rest : (list_all (is_step problem.events) problem.turns ≡ true) × (is_rising problem.changes ≡ true)
  rest = and_parts (list_all (is_step problem.events) problem.turns) (is_rising problem.changes) kinds.1

  turn : (k : ℕ) (d : Step) → k < length problem.turns
      → is_step problem.events (get_or problem.turns k d) ≡ true
  turn = AllPass-from_list_all (is_step problem.events) problem.turns rest.0

  pub passed_day : IsDay problem
  passed_day = record {
    numbered = numbered;
    few = leb-true n 100000 few.0;
    forward = record {
      each = eqb-true (length problem.earliest) n few.1;
      steps = steps_all problem (GoesForward problem.events) problem.changes
          (some_forward problem.events problem.rides activities.0)
          (some_forward problem.events problem.changes activities.1)
          (λ k d inside. step_forward problem.events (get_or problem.turns k d) (turn k d inside));
    };
    ids = All-append (λ activity. activity.id ≤ 500000) problem.rides problem.changes
        (some_ids problem.events problem.rides activities.0)
        (some_ids problem.events problem.changes activities.1);
    rise = rises problem.changes rest.1;
    late = λ event inside. leb-true (planned_at problem.events event) (time_at problem.earliest event)
        (place_parts event inside).1;
    soon = λ k d inside. grind (arith, leb-true, get_or, AllPass-from_list_all, timed);
    gains = steps_all problem (GainsLittle problem.events) problem.changes
        (some_gain problem.events problem.rides activities.0)
        (some_gain problem.events problem.changes activities.1)
        (λ k d inside. step_gains problem.events (get_or problem.turns k d) (turn k d inside));
    few_changes = leb-true (length problem.changes) 500000 few_more.0;
    few_steps = grind (arith, leb-true, few_more);
  }
