-- The stage of events and activities, from what each of its inputs gives.
use Rattle.plan_num.proofs.Common.{arith, ◌≡◌, ℕ, ◌<◌, ◌≤◌, List, [], length, subst, sym, ◌∙◌}
use Rattle.plan_num.proofs.Common.{Result, Ok, Err}
use Rattle.tables.specs.declared.counted.Counted.TheVariants as counted
use Rattle.giv_files.specs.declared.made.Made.{Made}
use Rattle.giv_files.specs.declared.setting.Setting.{Setting}
use Rattle.giv_files.proofs.Common.{BundleParts, input_text, StageGives, stage_refused}
use Rattle.tables.specs.declared.refusal.Refusal.TheVariants as refusal
use Rattle.tables.specs.declared.refusal.StageFault.{StageFault}
use Rattle.tables.proofs.Common.{Refuses, UnlessFault, or_else, refused_append, refused_before}
use Rattle.tables.proofs.Common.{after_none}
use Rattle.tables.specs.declared.refusal.StageFault.TheVariants as fault
use Rattle.event_activity.specs.declared.run_event.RunEvent.{RunEvent}
use Rattle.event_activity.specs.Activities.{concept_activities}
use Rattle.event_activity.specs.EanStage.{ean_made, ean_faults, ean_stage, events_in, activities_in, long_activities, too_many, rows_of}
use Rattle.event_activity.specs.Runs.{concept_events}
use Rattle.line_walks.specs.Pools.{LineParts, concept_of, concept_faults}
use Rattle.walks.proofs.Common.{NetworkParts}
use Rattle.ptn_network.specs.Networks.{network_of, network_faults}

module _ (bundle : BundleParts) where
  -- texts that give no network
  pub network_refused : (end : StageFault)
      → Refuses (network_faults (input_text bundle 0) (input_text bundle 1)) end
      → StageGives (ean_stage bundle) (Err end)
  unfolding ean_stage
  network_refused end h = grind (arith, stage_refused, refused_before, refused_append)

  module _ (network : NetworkParts)
      (none : network_faults (input_text bundle 0) (input_text bundle 1) ≡ [])
      (is : network ≡ network_of (input_text bundle 0) (input_text bundle 1)) where
    later : concept_faults network (input_text bundle 2) ≡ ean_faults bundle
    later = grind arith

    -- a text that gives no line concept
    pub concept_refused : (end : StageFault)
        → Refuses (concept_faults network (input_text bundle 2)) end
        → StageGives (ean_stage bundle) (Err end)
    unfolding ean_stage
    concept_refused end h = grind arith

    module _ (lines : List LineParts)
        (faultless : concept_faults network (input_text bundle 2) ≡ [])
        (read : lines ≡ concept_of network (input_text bundle 2)) where
      all_none : ean_faults bundle ≡ []
      all_none = sym later ∙ faultless

      events_are : concept_events network lines ≡ events_in bundle
      events_are = grind arith

      left : or_else (ean_faults bundle) (too_many (events_in bundle) (activities_in bundle))
          ≡ too_many (events_in bundle) (activities_in bundle)
      left = after_none (ean_faults bundle) _ all_none

      -- too many events
      pub events_refused : (count : ℕ) → count ≡ length (concept_events network lines)
          → 4000 < count
          → StageGives (ean_stage bundle)
          (Err (fault.Refused (refusal.TooMany counted.PeriodicEvents count)))
      unfolding ean_stage
      events_refused count told over = grind arith

      module _ (settings : List Setting) (set : settings ≡ bundle.settings)
          (events : List RunEvent) (made : events ≡ concept_events network lines)
          (few : length events ≤ 4000) where
        activities_are : concept_activities settings events ≡ activities_in bundle
        activities_are = grind arith

        faults_are : or_else (ean_faults bundle) (too_many (events_in bundle) (activities_in bundle))
            ≡ long_activities (concept_activities settings events)
        faults_are = grind arith

        -- and else what the events come to
        pub ean_given : (result : Result Made StageFault)
            → UnlessFault (long_activities (concept_activities settings events))
            (λ made. made ≡ ean_made (rows_of events) (concept_activities settings events)) result
            → StageGives (ean_stage bundle) result
        unfolding ean_stage
        ean_given (Ok result) h = grind arith
        ean_given (Err why) h =
            stage_refused _ _ why (subst (λ all. Refuses all why) (sym faults_are) h)
