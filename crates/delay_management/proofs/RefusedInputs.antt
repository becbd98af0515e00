-- From the reading of one input after the other to the faults of all of them.
use Rattle.plan_num.proofs.Common.{◌≡◌, ℕ, List, [], ◌++◌, Result, Vec, sym, subst, arith, Global}
use Rattle.tables.specs.declared.refusal.Refusal.{Refusal}
use Rattle.tables.specs.declared.refusal.StageFault.{StageFault}
use Rattle.tables.proofs.Common.{Input, Refuses, refused_append, ReadsFile}
use Rattle.giv_files.proofs.Common.{BundleParts}
use Rattle.event_tables.specs.declared.delay_row.DelayRow.{DelayRow}
use Rattle.event_tables.specs.declared.expanded_activity.ExpandedActivity.{ExpandedActivity}
use Rattle.event_tables.specs.declared.expanded_event.ExpandedEvent.{ExpandedEvent}
use Rattle.event_tables.specs.declared.schedule_row.ScheduleRow.{ScheduleRow}
use Rattle.delay_management.specs.DispositionStage.{activities_in, activity_delay_faults, activity_delays_in}
use Rattle.delay_management.specs.DispositionStage.{activity_faults, delay_faults, disposition_faults}
use Rattle.delay_management.specs.DispositionStage.{event_delay_faults, event_delays_in, event_faults, events_in}
use Rattle.delay_management.specs.DispositionStage.{made_faults, problem_in, schedule_faults, schedule_in, turnover_in}
use Rattle.delay_management.specs.InputProblems.{problem_over}

-- what is read of a text as a kind of file, told by others that are equal to them
pub reads_as : {X : Type 0} (kind other : Input X) (text told : List ℕ)
    (read : Result (Vec X Global) StageFault) → kind ≡ other → text ≡ told
    → ReadsFile kind text read → ReadsFile other told read
reads_as kind other text told read same is h =
    subst (λ (at : Input _ × List ℕ). ReadsFile at.0 at.1 read) (λ i. (same i, is i)) h

refused_behind : (some others : List Refusal) (fault : StageFault) → some ≡ []
    → Refuses others fault → Refuses (some ++ others) fault
refused_behind some others fault none h =
    subst (λ (front : List Refusal). Refuses (front ++ others) fault) (sym none) h

module _ (bundle : BundleParts) where
  abbrev first_made : List Refusal
  first_made = activity_faults bundle ++ schedule_faults bundle

  pub no_faults : event_faults bundle ≡ [] → activity_faults bundle ≡ [] → schedule_faults bundle ≡ []
      → event_delay_faults bundle ≡ [] → activity_delay_faults bundle ≡ []
      → disposition_faults bundle ≡ []
  unfolding disposition_faults
  no_faults no_events no_activities no_schedule no_delays no_more = grind arith

  module _ (fault : StageFault) where
    made_refuse : Refuses (made_faults bundle) fault → Refuses (disposition_faults bundle) fault
    unfolding disposition_faults
    made_refuse h = refused_append (made_faults bundle) (delay_faults bundle) fault h

    pub events_refuse : Refuses (event_faults bundle) fault → Refuses (disposition_faults bundle) fault
    events_refuse h = made_refuse (refused_append (event_faults bundle) first_made fault h)

    module _ (no_events : event_faults bundle ≡ []) where
      pub activities_refuse : Refuses (activity_faults bundle) fault
          → Refuses (disposition_faults bundle) fault
      activities_refuse h = grind (arith, made_refuse, refused_behind, refused_append)

      module _ (no_activities : activity_faults bundle ≡ []) where
        pub schedule_refuses : Refuses (schedule_faults bundle) fault
            → Refuses (disposition_faults bundle) fault
        schedule_refuses h = grind (arith, made_refuse, refused_behind)

        module _ (no_schedule : schedule_faults bundle ≡ []) where
          delays_refuse : Refuses (delay_faults bundle) fault → Refuses (disposition_faults bundle) fault
          unfolding disposition_faults
          delays_refuse h = grind arith

          pub event_delays_refuse : Refuses (event_delay_faults bundle) fault
              → Refuses (disposition_faults bundle) fault
          event_delays_refuse h = grind (arith, delays_refuse, refused_append)

          pub activity_delays_refuse : event_delay_faults bundle ≡ []
              → Refuses (activity_delay_faults bundle) fault → Refuses (disposition_faults bundle) fault
          activity_delays_refuse no_delays h = grind (arith, delays_refuse, refused_behind)

  pub problem_is : (turnover : ℕ) (events : List ExpandedEvent) (activities : List ExpandedActivity)
      (schedule : List ScheduleRow) (event_rows activity_rows : List DelayRow)
      → turnover ≡ turnover_in bundle → events ≡ events_in bundle → activities ≡ activities_in bundle
      → schedule ≡ schedule_in bundle → event_rows ≡ event_delays_in bundle
      → activity_rows ≡ activity_delays_in bundle
      → problem_over turnover events activities schedule event_rows activity_rows ≡ problem_in bundle
  unfolding problem_in
  problem_is turnover events activities schedule event_rows activity_rows t e a s d f =
      λ i. problem_over (t i) (e i) (a i) (s i) (d i) (f i)
