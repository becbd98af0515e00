-- What plans come to, where their trips and events are not too many.
use Rattle.plan_num.proofs.Common.{◌≡◌, ℕ, ◌+◌, ◌<◌, ◌≤◌, arith, List, ◌++◌, length, ap, sym, ◌∙◌}
use Rattle.plan_num.proofs.Common.{flat_map, length-map, length-enumerate_from}
use Rattle.tables.specs.declared.counted.Counted.TheVariants as counted
use Rattle.tables.specs.declared.refusal.Refusal.TheVariants as refusal
use Rattle.tables.specs.declared.refusal.StageFault.TheVariants as fault
use Rattle.tables.proofs.Common.{Refuses}
use Rattle.event_tables.specs.declared.expanded_activity.ExpandedActivity.{ExpandedActivity}
use Rattle.roll_out.specs.declared.copies.Copies.{Copies}
use Rattle.roll_out.specs.DayActivities.{day_activities, day_ways, with_numbers}
use Rattle.roll_out.specs.DayTrips.{TripParts}
use Rattle.roll_out.specs.Plans.{ArePlans, IsSmallDay, IsTimed, PlanParts, changes_if, copies_by, event_total, trip_total, trips_by}
use Rattle.roll_out.specs.RolloutStage.{long_lists}
use Rattle.roll_out.specs.TimedRuns.{TimedParts}
use Rattle.roll_out.proofs.DayChanges.{changes_are}
use Rattle.roll_out.proofs.RolloutCalls.{events_long, trips_long}
use Rattle.roll_out.proofs.SoundPlans.{between_all}
use Rattle.roll_out.proofs.SoundTrips.{copies_each, copies_few, events_counted, trips_counted, trips_sound}

module _ (network : TimedParts) (plans : List PlanParts) (are : ArePlans network plans) where
  abbrev trips_on : List TripParts
  trips_on = trips_by network.period 1 plans

  -- too many trips
  pub trips_refused : (count : ℕ) → count ≡ trip_total plans → 2000 < count
      → Refuses (long_lists network trips_on) (fault.Refused (refusal.TooMany counted.Trips count))
  trips_refused count is over =
      trips_long network trips_on count (is ∙ sym (trips_counted network.period 1 plans)) over

  -- too many events
  pub events_refused : (trips count : ℕ) → trips ≡ trip_total plans → trips ≤ 2000
      → count ≡ event_total plans → 100000 < count
      → Refuses (long_lists network trips_on)
      (fault.Refused (refusal.TooMany counted.ExpandedEvents count))
  events_refused trips count told few is over =
      grind (arith, events_long, trips_counted, events_counted)

  -- neither
  pub small_day : IsTimed network → (trips events : ℕ) → trips ≡ trip_total plans → trips ≤ 2000
      → events ≡ event_total plans → events ≤ 100000 → (some : List TripParts)
      (copies : List Copies) → some ≡ trips_on → copies ≡ copies_by 1 plans
      → IsSmallDay network some copies
  small_day is trips events trips_are few_trips events_are few_events some copies same copied =
      grind (
        arith,
        trips_sound,
        trips_counted,
        events_counted,
        copies_few,
        copies_each,
        changes_are,
        between_all,
      )

-- the activities of such a day
module _ (network : TimedParts) (trips : List TripParts) (copies : List Copies)
    (is : IsSmallDay network trips copies) where
  module _ (plain : List ExpandedActivity)
      (told : plain ≡ day_ways trips ++ flat_map (changes_if network copies) network.activities)
    where
      pub activities_are : with_numbers plain ≡ day_activities network trips
      unfolding day_activities
      activities_are = ap with_numbers (told ∙ ap (λ some. day_ways trips ++ some) is.changes)

      pub plain_few : length (day_activities network trips) ≤ 500000 → length plain ≤ 500000
      plain_few few = grind (arith, activities_are, length-map, length-enumerate_from)
