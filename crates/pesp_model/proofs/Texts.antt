-- The problem of two texts, from what each of them gives.
use Rattle.plan_num.proofs.Common.{◌≡◌, ℕ, ◌<◌, ◌≤◌, List, [], length, map, get_or, sym, subst}
use Rattle.plan_num.proofs.Common.{arith, length-map, All-map}
use Rattle.tables.specs.declared.refusal.StageFault.{StageFault}
use Rattle.tables.proofs.Common.{Input, Refuses, records_of, input_faults, refused_append}
use Rattle.event_tables.specs.declared.periodic_activity.PeriodicActivity.{PeriodicActivity}
use Rattle.event_tables.specs.declared.periodic_event.PeriodicEvent.{PeriodicEvent}
use Rattle.event_tables.proofs.Common.{periodic_event_input, periodic_activity_input}
use Rattle.event_tables.proofs.Common.{periodic_event_ids, ArePeriodicActivities}
use Rattle.pesp.specs.declared.activity.PespActivity.{PespActivity}
use Rattle.pesp_model.specs.PespTexts.{activity_of, events_of, activities_of, problem_of, problem_faults}
use Rattle.pesp.specs.Timetables.{IsActivity, IsProblem}

-- the file of activities between some events
abbrev activities_between : List PeriodicEvent → Input PeriodicActivity
activities_between events = periodic_activity_input (periodic_event_ids events)

module _ (events_text activities_text : List ℕ) where
  -- a text of events that is refused
  pub refused_events : (fault : StageFault)
      → Refuses (input_faults periodic_event_input events_text) fault
      → Refuses (problem_faults events_text activities_text) fault
  unfolding problem_faults
  refused_events fault by =
      refused_append (input_faults periodic_event_input events_text) _ fault by

  module _ (events : List PeriodicEvent) (none : input_faults periodic_event_input events_text
      ≡ []) (are : events ≡ records_of periodic_event_input events_text) where
    -- the faults of the activities are all, where the events have none
    pub activity_faults : input_faults (activities_between events) activities_text
        ≡ problem_faults events_text activities_text
    unfolding problem_faults events_of
    activity_faults = grind arith

    -- the problem of the events and of the rows of the activities
    pub problem_is : (period count : ℕ) (rows : List PeriodicActivity)
        (activities : List PespActivity) → count ≡ length events
        → rows ≡ records_of (activities_between events) activities_text
        → activities ≡ map activity_of rows
        → record { period = period; events = count; activities = activities }
        ≡ problem_of period events_text activities_text
    unfolding problem_of events_of activities_of
    problem_is period count rows activities counted read made = grind arith

-- ---- what holds of such a problem

module _ (events : ℕ) (rows : List PeriodicActivity) (are : ArePeriodicActivities events rows) where
  sound_at : (i : ℕ) (d : PeriodicActivity) → i < length rows
      → IsActivity events (activity_of (get_or rows i d))
  sound_at i d some = grind arith

  pub problem_sound : (period : ℕ) → 1 ≤ period → period ≤ 720 → (count : ℕ) → count ≡ events
      → events ≤ 4000 → (activities : List PespActivity) → activities ≡ map activity_of rows
      → IsProblem (record { period = period; events = count; activities = activities })
  problem_sound period some few count counted few_events activities made =
      rw (counted, made) (record {
        some = some;
        few = few;
        few_events = few_events;
        few_activities = subst (λ n. n ≤ 200000) (sym (length-map rows activity_of)) are.few;
        sound = All-map (IsActivity events) activity_of rows (λ i d some. sound_at i d some);
      })
