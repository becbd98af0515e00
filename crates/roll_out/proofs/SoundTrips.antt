-- The trips of plans, and where the copies of their events are, have small numbers.
use Rattle.plan_num.proofs.Common.{◌≡◌, ℕ, zero, suc, ◌+◌, ◌*◌, ◌<◌, ◌≤◌, arith, All, List, [], ◌∷◌}
use Rattle.plan_num.proofs.Common.{length, map, refl, ap, ◌∙◌, flat_map, range_with_len}
use Rattle.plan_num.proofs.Common.{enumerate_from, AllByRecursion, length-map, length-append}
use Rattle.plan_num.proofs.Common.{All-nil, All-append, All-head, All-tail, All-map}
use Rattle.plan_num.proofs.Common.{All-from_recursion, recursion_from_All, flat_map-append}
use Rattle.plan_num.proofs.Common.{length-range_with_len, length-enumerate_from, sum_by-cons}
use Rattle.roll_out.specs.declared.timed_event.TimedEvent.{TimedEvent}
use Rattle.roll_out.specs.DayTrips.{day_events, trip_events}
use Rattle.roll_out.specs.Plans.{AreFew, ArePlans, IsPlan, IsTimely, IsTrip, PlanParts, copies_at, copies_by, event_total, plan_copies, plan_trips, trip_after, trip_total, trips_by}
use Rattle.roll_out.specs.TimedRuns.{TimedParts}
use Rattle.roll_out.proofs.Growing.{plan_size}

numbers_by : (P : ℕ → Type 0) (a n : ℕ) → ((k : ℕ) → a ≤ k → k < a + n → P k)
    → AllByRecursion P (range_with_len a n)
numbers_by P a zero each = tt
numbers_by P a (suc n) each = (
  each a (omega arith) (omega arith),
  numbers_by P (a + 1) n
      (λ k low high. each k (omega (arith, low)) (omega (arith, high))),
)

pub numbered_by : (P : ℕ × TimedEvent → Type 0) (Q : TimedEvent → Type 0) (a : ℕ)
    (run : List TimedEvent)
    → ((k : ℕ) (at : TimedEvent) → a ≤ k → k < a + length run → Q at → P (k, at))
    → AllByRecursion Q run → AllByRecursion P (enumerate_from a run)
numbered_by P Q a [] step all = tt
numbered_by P Q a (at ∷ run) step all = (
  step a at (omega arith) (omega arith) all.0,
  numbered_by P Q (a + 1) run (λ k at low high good. step k at (omega (arith, low))
      (omega (arith, high)) good) all.1,
)

module _ (period : ℕ) (short : period ≤ 720) where
  trip_sound : (n k : ℕ) (plan : PlanParts) → IsPlan plan → 1 ≤ n → n + plan_size plan ≤ 100001
      → plan.trips ≤ 2000
      → k < plan.trips → IsTrip (trip_after period n plan k)
  trip_sound n k plan is low few rare here = grind arith

  plan_trips_sound : (n : ℕ) (plan : PlanParts) → IsPlan plan → 1 ≤ n → n + plan_size plan ≤ 100001
      → plan.trips ≤ 2000 → All IsTrip (plan_trips period n plan)
  plan_trips_sound n plan is low few rare =
      All-map IsTrip (trip_after period n plan) (range_with_len 0 plan.trips)
      (All-from_recursion (λ k. IsTrip (trip_after period n plan k)) (range_with_len 0 plan.trips)
      (numbers_by (λ k. IsTrip (trip_after period n plan k)) 0 plan.trips
      (λ k _ high. trip_sound n k plan is low few rare (omega (arith, high)))))

  -- the trips of plans
  pub trips_sound : (n : ℕ) (plans : List PlanParts) → All IsPlan plans → 1 ≤ n
      → n + event_total plans ≤ 100001
      → trip_total plans ≤ 2000 → All IsTrip (trips_by period n plans)
  unfolding trips_by
  trips_sound n [] all low few rare = All-nil IsTrip
  trips_sound n (plan ∷ plans) all low few rare =
      let events = sum_by-cons plan_size plan plans in
      let trips = sum_by-cons (λ (plan : PlanParts). plan.trips) plan plans in
      All-append IsTrip (plan_trips period n plan) (trips_by period (n + plan_size plan) plans)
      (plan_trips_sound n plan (All-head IsPlan plan plans all) low (omega (arith, events, few))
      (omega (arith, trips, rare)))
      (trips_sound (n + plan_size plan) plans (All-tail IsPlan plan plans all) (omega (arith, low))
      (omega (arith, events, few)) (omega (arith, trips, rare)))

module _ (period : ℕ) where
  -- how many there are
  pub trips_counted : (n : ℕ) (plans : List PlanParts) → length (trips_by period n plans)
      ≡ trip_total plans
  unfolding trips_by
  trips_counted n [] = refl
  trips_counted n (plan ∷ plans) =
      let size = length-map (range_with_len 0 plan.trips) (trip_after period n plan) in
      let count = length-range_with_len 0 plan.trips in
      let both = length-append (plan_trips period n plan)
      (trips_by period (n + plan_size plan) plans) in
      let rest = trips_counted (n + plan_size plan) plans in
      let total = sum_by-cons (λ (plan : PlanParts). plan.trips) plan plans in
      omega (arith, size, count, both, rest, total)

  -- and how many events they have
  part_events : (n : ℕ) (plan : PlanParts) (a count : ℕ)
      → length (day_events (map (trip_after period n plan) (range_with_len a count)))
      ≡ count * length plan.run
  part_events n plan a zero = omega arith
  part_events n plan a (suc count) =
      grind (
        arith,
        length-append,
        length-map,
        length-enumerate_from,
        part_events n plan (a + 1) count,
      )

  pub events_counted : (n : ℕ) (plans : List PlanParts)
      → length (day_events (trips_by period n plans)) ≡ event_total plans
  unfolding trips_by
  events_counted n [] = refl
  events_counted n (plan ∷ plans) =
      let later = trips_by period (n + plan_size plan) plans in
      let parts = ap length (flat_map-append trip_events (plan_trips period n plan) later) in
      let both = length-append (day_events (plan_trips period n plan)) (day_events later) in
      let mine = part_events n plan 0 plan.trips in
      let rest = events_counted (n + plan_size plan) plans in
      let total = sum_by-cons plan_size plan plans in
      omega (arith, parts, both, mine, rest, total)

-- ---- copies

plan_copies_few : (n : ℕ) (plan : PlanParts) → IsPlan plan → 1 ≤ n → n ≤ 100001 → plan.trips ≤ 2000
    → All AreFew (plan_copies n plan)
plan_copies_few n plan is low high rare =
    All-map AreFew (copies_at n plan) (enumerate_from 0 plan.run)
    (All-from_recursion (λ at. AreFew (copies_at n plan at)) (enumerate_from 0 plan.run)
    (numbered_by (λ at. AreFew (copies_at n plan at)) IsTimely 0 plan.run
    (λ k at _ inside good. record {
      low = omega (arith, low);
      first = let short = is.short in omega (arith, high, inside, short);
      step = is.short;
      start = let soon = good.soon in let early = is.early in omega (arith, soon, early);
      count = rare;
    }) (recursion_from_All IsTimely plan.run is.timely)))

pub copies_few : (n : ℕ) (plans : List PlanParts) → All IsPlan plans → 1 ≤ n
    → n + event_total plans ≤ 100001
    → trip_total plans ≤ 2000 → All AreFew (copies_by n plans)
unfolding copies_by
copies_few n [] all low few rare = All-nil AreFew
copies_few n (plan ∷ plans) all low few rare =
    let events = sum_by-cons plan_size plan plans in
    let trips = sum_by-cons (λ (plan : PlanParts). plan.trips) plan plans in
    All-append AreFew (plan_copies n plan) (copies_by (n + plan_size plan) plans)
    (plan_copies_few n plan (All-head IsPlan plan plans all) low (omega (arith, few))
    (omega (arith, trips, rare)))
    (copies_few (n + plan_size plan) plans (All-tail IsPlan plan plans all) (omega (arith, low))
    (omega (arith, events, few)) (omega (arith, trips, rare)))

abbrev ids_of : PlanParts → List ℕ
ids_of plan = map (λ (at : TimedEvent). at.event.id) plan.run

copies_size : (n : ℕ) (plans : List PlanParts) → length (copies_by n plans)
    ≡ length (flat_map ids_of plans)
unfolding copies_by
copies_size n [] = refl
copies_size n (plan ∷ plans) =
    grind (
      arith,
      length-map,
      length-enumerate_from,
      length-append,
      plan_size,
      copies_size (n + plan_size plan) plans,
    )

-- there are copies of each event
pub copies_each : (network : TimedParts) (plans : List PlanParts) → ArePlans network plans
    → length (copies_by 1 plans) ≡ length network.events
copies_each network plans are =
    copies_size 1 plans ∙ ap length are.placed ∙ length-range_with_len 1 (length network.events)
