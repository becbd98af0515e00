-- The stage that rolls a timetable out, from what its parts give.
use Rattle.plan_num.proofs.Common.{◌≡◌, ℕ, ◌+◌, ◌<◌, ◌≤◌, arith, List, [], ◌∷◌, length, ◌∙◌, Ok}
use Rattle.plan_num.proofs.Common.{Err, Result, length-append, length-map, length-enumerate_from}
use Rattle.tables.specs.declared.counted.Counted.TheVariants as counted
use Rattle.giv_files.specs.declared.made.Made.{Made}
use Rattle.giv_files.proofs.Common.{BundleParts, StageGives}
use Rattle.tables.specs.declared.refusal.Refusal.{Refusal}
use Rattle.tables.specs.declared.refusal.StageFault.{StageFault}
use Rattle.tables.proofs.Common.{Refuses, UnlessFault, limit_faults, row_limit, under_limit}
use Rattle.tables.specs.declared.refusal.Refusal.TheVariants as refusal
use Rattle.tables.specs.declared.refusal.StageFault.TheVariants as fault
use Rattle.event_tables.specs.declared.expanded_activity.ExpandedActivity.{ExpandedActivity}
use Rattle.event_tables.specs.declared.expanded_event.ExpandedEvent.{ExpandedEvent}
use Rattle.roll_out.specs.DayActivities.{day_activities, day_changes, day_ways}
use Rattle.roll_out.specs.DayTrips.{TripParts, day_events}
use Rattle.roll_out.specs.RolloutStage.{file_faults, long_lists, made_of, network_in, rollout_stage, run_faults, trips_in}
use Rattle.roll_out.specs.TimedRuns.{TimedParts}

-- ---- lists that are too long

module _ (network : TimedParts) (trips : List TripParts) where
  abbrev events : List ExpandedEvent
  events = day_events trips

  abbrev activities : List ExpandedActivity
  activities = day_activities network trips

  abbrev long_trips : List Refusal
  long_trips = limit_faults (row_limit counted.Trips 2000 ∷ []) trips

  abbrev long_events : List Refusal
  long_events = limit_faults (row_limit counted.ExpandedEvents 100000 ∷ []) events

  abbrev long_activities : List Refusal
  long_activities = limit_faults (row_limit counted.ExpandedActivities 500000 ∷ []) activities

  pub trips_long : (count : ℕ) → count ≡ length trips → 2000 < count
      → Refuses (long_lists network trips) (fault.Refused (refusal.TooMany counted.Trips count))
  trips_long count is over = grind arith

  module _ (few_trips : length trips ≤ 2000) where
    no_trips : long_trips ≡ []
    no_trips = under_limit counted.Trips 2000 trips few_trips

    pub events_long : (count : ℕ) → count ≡ length events → 100000 < count
        → Refuses (long_lists network trips)
        (fault.Refused (refusal.TooMany counted.ExpandedEvents count))
    events_long count is over = grind arith

    module _ (few_events : length events ≤ 100000) where
      no_events : long_events ≡ []
      no_events = under_limit counted.ExpandedEvents 100000 events few_events

      only : long_lists network trips ≡ long_activities
      only = grind arith

      pub activities_long : (count : ℕ) → count ≡ length activities → 500000 < count
          → Refuses (long_lists network trips)
          (fault.Refused (refusal.TooMany counted.ExpandedActivities count))
      activities_long count is over = grind arith

      pub none_long : length activities ≤ 500000 → long_lists network trips ≡ []
      none_long few = only ∙ under_limit counted.ExpandedActivities 500000 activities few

  -- how many activities there are
  pub activities_counted : (ways changes : ℕ) → ways ≡ length (day_ways trips)
      → changes ≡ length (day_changes network events) → ways + changes ≡ length activities
  unfolding day_activities
  activities_counted ways changes first second =
      grind (arith, length-map, length-enumerate_from, length-append)

-- ---- the stage

module _ (bundle : BundleParts) where
  -- a text that is refused
  pub file_refused : (why : StageFault) → Refuses (file_faults bundle) why
      → StageGives (rollout_stage bundle) (Err why)
  unfolding rollout_stage
  file_refused why h = grind arith

  module _ (none : file_faults bundle ≡ []) where
    -- a rule of runs that is broken
    pub rule_refused : (why : StageFault) → Refuses (run_faults bundle) why
        → StageGives (rollout_stage bundle) (Err why)
    unfolding rollout_stage
    rule_refused why h = grind arith

    -- and else what the trips come to
    pub rolled : run_faults bundle ≡ [] → (network : TimedParts) (trips : List TripParts) → network
        ≡ network_in bundle
        → trips ≡ trips_in bundle → (result : Result Made StageFault)
        → UnlessFault (long_lists network trips) (λ made. made ≡ made_of network trips) result
        → StageGives (rollout_stage bundle) result
    unfolding rollout_stage
    rolled kept network trips is are (Ok made) h = grind arith
    rolled kept network trips is are (Err why) h = grind arith
