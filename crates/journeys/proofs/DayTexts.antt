-- The day of texts, from what each of them gives.
use Rattle.plan_num.proofs.Common.{◌≡◌, ◌∙◌, ℕ, List, [], ◌++◌, Option, ap, sym, arith}
use Rattle.tables.specs.declared.refusal.StageFault.{StageFault}
use Rattle.tables.proofs.Common.{Refuses, input_faults, records_of, refused_append}
use Rattle.event_tables.specs.declared.expanded_activity.ExpandedActivity.{ExpandedActivity}
use Rattle.event_tables.specs.declared.expanded_event.ExpandedEvent.{ExpandedEvent}
use Rattle.event_tables.proofs.Common.{expanded_activity_input, expanded_event_input}
use Rattle.journeys.specs.JourneyNets.{activities_of, events_of, journey_faults, net_of, net_over, time_faults_over}
use Rattle.journeys.specs.JourneyNets.{times_of, times_over}

module _ (events_text activities_text : List ℕ) (times_text : Option (List ℕ)) where
  -- a text of events that is refused
  pub refused_events : (fault : StageFault)
      → Refuses (input_faults expanded_event_input events_text) fault
      → Refuses (journey_faults events_text activities_text times_text) fault
  unfolding journey_faults
  refused_events fault by = grind (arith, refused_append)

  module _ (events : List ExpandedEvent)
      (no_fault : input_faults expanded_event_input events_text ≡ [])
      (are : events ≡ records_of expanded_event_input events_text) where
    are_events : events ≡ events_of events_text
    unfolding events_of
    are_events = are

    -- without a fault of the events all faults are those of the activities and of the times
    pub refused_activities : (fault : StageFault)
        → Refuses (input_faults (expanded_activity_input events) activities_text) fault
        → Refuses (journey_faults events_text activities_text times_text) fault
    unfolding journey_faults
    refused_activities fault by = grind (arith, refused_append, are_events)

    module _ (activities : List ExpandedActivity)
        (no_more : input_faults (expanded_activity_input events) activities_text ≡ [])
        (rows : activities ≡ records_of (expanded_activity_input events) activities_text) where
      -- nor of the activities, those of the times alone
      pub time_faults : time_faults_over events times_text
          ≡ journey_faults events_text activities_text times_text
      unfolding journey_faults
      time_faults =
          ap (λ some. time_faults_over some times_text) are_events
          ∙ ap (λ some. some ++ time_faults_over (events_of events_text) times_text) (sym no_more)
          ∙ ap (λ some. input_faults (expanded_activity_input some) activities_text
          ++ time_faults_over (events_of events_text) times_text) are_events
          ∙ ap (λ first. first
          ++ input_faults (expanded_activity_input (events_of events_text)) activities_text
          ++ time_faults_over (events_of events_text) times_text) (sym no_fault)

      pub net_is : (times : List ℕ) → times ≡ times_over events times_text
          → net_over events times activities ≡ net_of events_text activities_text times_text
      unfolding net_of times_of activities_of
      net_is times told = grind (arith, are_events)
