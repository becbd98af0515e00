-- The plans of the runs of a timetable.
use Rattle.plan_num.proofs.Common.{◌≡◌, ℕ, suc, ◌+◌, ◌*◌, ◌-◌, ◌<◌, ◌≤◌, ◌≤ℤ◌, pos, nat_le, arith}
use Rattle.plan_num.proofs.Common.{All, IfSome, List, [], ◌∷◌, length, map, get_or, Option, Some}
use Rattle.plan_num.proofs.Common.{None, refl, ap, subst, sym, ◌∙◌, flat_map, AllByRecursion}
use Rattle.plan_num.proofs.Common.{length-map, map-append, recursion_from_All, All-from_recursion}
use Rattle.plan_num.proofs.Common.{ints, div-add-mod', mul-le, get_or-map, get_or-range_with_len}
use Rattle.tables.proofs.Common.{events_p_columns, activities_p_columns, InColumns}
use Rattle.event_tables.specs.declared.periodic_activity.PeriodicActivity.{PeriodicActivity}
use Rattle.event_tables.specs.declared.periodic_event.PeriodicEvent.{PeriodicEvent}
use Rattle.event_tables.proofs.Common.{periodic_event_cells, periodic_activity_cells, runs_of}
use Rattle.event_tables.proofs.Common.{leads, IsOneOf}
use Rattle.roll_out.specs.declared.day.Day.{Day}
use Rattle.roll_out.specs.declared.timed_event.TimedEvent.{TimedEvent}
use Rattle.roll_out.specs.Plans.{ArePlans, IsBetween, IsDay, IsPlan, IsTimed, IsTimely, PlanParts, first_start, plan_of, start_count}
use Rattle.roll_out.specs.TimedRuns.{TimedParts, minutes_of, minutes_on, no_time, time_at, timed_from, way_on}
use Rattle.plan_num.proofs.Found.{found_has}
use Rattle.roll_out.proofs.WholeRuns.{runs_few, runs_have, runs_short, runs_some, runs_whole, whole_run}

-- ---- timed events

timed_ids : (network : TimedParts) (minutes : ℕ) (run : List PeriodicEvent)
    → map (λ (at : TimedEvent). at.event.id) (timed_from network minutes run)
    ≡ map (λ (event : PeriodicEvent). event.id) run
unfolding timed_from
timed_ids network minutes [] = refl
timed_ids network minutes (event ∷ run) =
    grind (arith, timed_ids network (minutes + minutes_on network (way_on network event run)) run)

pub timed_size : (network : TimedParts) (minutes : ℕ) (run : List PeriodicEvent)
    → length (timed_from network minutes run) ≡ length run
unfolding timed_from
timed_size network minutes [] = refl
timed_size network minutes (event ∷ run) = ap (λ n. suc n)
    (timed_size network (minutes + minutes_on network (way_on network event run)) run)

-- ---- minutes

upper_low : (lower upper : ℕ) → lower ≤ upper → pos upper ≤ℤ pos 100000 → lower ≤ 100000
upper_low lower upper order high = omega (arith, ints, order, high)

module _ (network : TimedParts) (some : 1 ≤ network.period) (short : network.period ≤ 720) where
  -- an activity takes its lower bound, and less than a period more
  pub minutes_are : (activity : PeriodicActivity)
      → (activity.lower ≤ minutes_of network activity)
      × (minutes_of network activity < activity.lower + network.period)
  minutes_are activity = grind arith

  low_enough : (activity : PeriodicActivity) → IsBetween network activity → activity.lower ≤ 100000
  low_enough activity is = upper_low activity.lower activity.upper is.sound.in_order
      is.fits.1.1.1.1.1.0.1

  minutes_short : (activity : PeriodicActivity) → IsBetween network activity
      → minutes_of network activity ≤ 100720
  minutes_short activity is = grind (arith, minutes_are, low_enough)

  way_short : (way : Option PeriodicActivity) → IfSome way (IsBetween network)
      → minutes_on network way ≤ 100720
  way_short None is = omega arith
  way_short (Some activity) is = minutes_short activity is

  way_fits : (way : Option PeriodicActivity) → IfSome way (IsBetween network)
      → IfSome way (λ way. InColumns activities_p_columns (periodic_activity_cells way))
  way_fits None is = tt
  way_fits (Some activity) is = is.fits

  module _ (between : All (IsBetween network) network.activities) where
    -- the activity that leads on is one between the events
    pub way_between : (event : PeriodicEvent) (run : List PeriodicEvent)
        → IfSome (way_on network event run) (IsBetween network)
    way_between event [] = tt
    way_between event (next ∷ run) =
        found_has (IsBetween network) (leads (event, next)) network.activities between

    pub timely : (run : List PeriodicEvent) (minutes n : ℕ) → minutes ≤ 100720 * n → n + length run
        ≤ 4000
        → AllByRecursion (λ (event : PeriodicEvent). InColumns events_p_columns
        (periodic_event_cells event)) run
        → AllByRecursion IsTimely (timed_from network minutes run)
    unfolding timed_from
    timely [] minutes n soon few fit = tt
    timely (event ∷ run) minutes n soon few fit =
        let way = way_on network event run in
        let is = way_between event run in
        let more = way_short way is in grind (
          arith,
          way_fits,
          timely run (minutes + minutes_on
              network way) (n + 1) (omega (arith, soon, more)) (omega (arith, few)) fit.1,
        )

-- ---- plans

pub between_all : (network : TimedParts) → IsTimed network
    → All (IsBetween network) network.activities
between_all network is = grind arith

module _ (network : TimedParts) (is : IsTimed network) where
  id_in : (i : ℕ) (d : PeriodicEvent) → i < length network.events
      → IsOneOf (length network.events) (get_or network.events i d).id
  id_in i d h =
      let at : (get_or network.events i d).id ≡ 1 + i =
      sym (get_or-map (λ (event : PeriodicEvent). event.id) network.events i d 0 h)
      ∙ ap (λ ids. get_or ids i 0) is.events_are.numbered
      ∙ get_or-range_with_len 1 (length network.events) i 0 h in
      (omega (arith, at), omega (arith, at, h))

  abbrev all_runs : List (List PeriodicEvent)
  all_runs = runs_of network.events

  whole : flat_map whole_run all_runs ≡ network.events
  whole = runs_whole network.events

  pub runs_in : AllByRecursion (λ (run : List PeriodicEvent). length run ≤ 4000) all_runs
  runs_in = runs_short all_runs 4000 (let few = is.events_are.few in grind (arith, whole))

  pub ids_in : AllByRecursion (λ (run : List PeriodicEvent). AllByRecursion
      (λ (event : PeriodicEvent). IsOneOf (length network.events) event.id) run) all_runs
  ids_in = grind (arith, runs_have, whole, recursion_from_All, id_in)

  fits_in : AllByRecursion (λ (run : List PeriodicEvent). AllByRecursion
      (λ (event : PeriodicEvent). InColumns events_p_columns (periodic_event_cells event)) run)
      all_runs
  fits_in = runs_have (λ (event : PeriodicEvent). InColumns events_p_columns
      (periodic_event_cells event)) all_runs
      (subst (AllByRecursion (λ (event : PeriodicEvent). InColumns events_p_columns
      (periodic_event_cells event))) (sym whole)
      (recursion_from_All (λ (event : PeriodicEvent). InColumns events_p_columns
      (periodic_event_cells event)) network.events is.events_are.fit))

  -- the runs have some events, and not too many
  pub runs_sized : All (λ (run : List PeriodicEvent). (1 ≤ length run) × (length run ≤ 4000))
      all_runs
  runs_sized = grind (arith, All-from_recursion, runs_some, runs_in)

  -- and these are those of the timetable
  pub runs_there : All (λ (run : List PeriodicEvent). All
      (λ event. IsOneOf (length network.events) event.id) run) all_runs
  runs_there = grind (arith, All-from_recursion, get_or, ids_in)

module _ (network : TimedParts) (is : IsTimed network) (day : Day) (in_week : IsDay day) where
  pub time_in : (id : ℕ) → 1 ≤ id → id ≤ length network.events → time_at network id < network.period
  time_in id low high =
      is.times_are.in_period (id - 1) no_time (omega (arith, low, high, is.times_are.each_event))

  start_early : (time : ℕ) → time < network.period → first_start network.period day time ≤ 10800
  start_early time within = grind arith

  count_few : (start : ℕ) → start_count network.period day start ≤ 10081
  count_few start = grind (arith, nat_le, div-add-mod', mul-le)

  plan_sound : (run : List PeriodicEvent) → 1 ≤ length run → length run ≤ 4000
      → AllByRecursion (λ (event : PeriodicEvent). InColumns events_p_columns
      (periodic_event_cells event)) run
      → AllByRecursion (λ (event : PeriodicEvent). IsOneOf (length network.events) event.id) run
      → IsPlan (plan_of network day run)
  plan_sound [] some few fit ids = absurd (omega (arith, some))
  plan_sound (event ∷ run) some few fit ids =
      let size = timed_size network 0 (event ∷ run) in
      let time = time_in event.id ids.0.0 ids.0.1 in
      record {
        some = omega (arith, size, some);
        early = start_early (time_at network event.id) time;
        timely = All-from_recursion IsTimely (timed_from network 0 (event ∷ run))
            (timely network is.some is.short (between_all network is) (event ∷ run) 0 0
            (omega arith)
            (omega (arith, few)) fit);
        short = omega (arith, size, few);
        few = count_few (first_start network.period day (time_at network event.id));
      }

  plans_sound : (runs : List (List PeriodicEvent))
      → AllByRecursion (λ (run : List PeriodicEvent). 1 ≤ length run) runs
      → AllByRecursion (λ (run : List PeriodicEvent). length run ≤ 4000) runs
      → AllByRecursion (λ (run : List PeriodicEvent). AllByRecursion
      (λ (event : PeriodicEvent). InColumns events_p_columns (periodic_event_cells event)) run) runs
      → AllByRecursion (λ (run : List PeriodicEvent). AllByRecursion
      (λ (event : PeriodicEvent). IsOneOf (length network.events) event.id) run) runs
      → AllByRecursion IsPlan (map (plan_of network day) runs)
  plans_sound [] some few fit ids = tt
  plans_sound (run ∷ runs) some few fit ids =
      (plan_sound run some.0 few.0 fit.0 ids.0, plans_sound runs some.1 few.1 fit.1 ids.1)

  plan_ids : (runs : List (List PeriodicEvent))
      → flat_map (λ (plan : PlanParts). map (λ (at : TimedEvent). at.event.id) plan.run)
      (map (plan_of network day) runs)
      ≡ map (λ (event : PeriodicEvent). event.id) (flat_map whole_run runs)
  plan_ids [] = refl
  plan_ids (run ∷ runs) = grind (arith, timed_ids, map-append, whole_run, plan_ids runs)

  -- the plans of all runs are those of the timetable
  pub plans_are : ArePlans network (map (plan_of network day) (runs_of network.events))
  plans_are =
      grind (
        arith,
        All-from_recursion,
        plans_sound,
        runs_some,
        runs_in,
        fits_in,
        ids_in,
        runs_few,
        length-map,
        runs_whole,
        plan_ids,
      )
