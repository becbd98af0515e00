-- What the stage of dispositions owes to the chain, and what the statistic takes of it.
use Rattle.plan_num.proofs.Common.{◌≡◌, ℕ, ℤ, inr, List, [], ◌∷◌, None, Some, refl, arith}
use Rattle.tables.specs.declared.file_id.FileId.{FileId}
use Rattle.tables.specs.declared.file_id.FileId.TheVariants as file
use Rattle.giv_files.specs.declared.made.MadeFile.{MadeFile}
use Rattle.tables.specs.declared.refusal.Refusal.{Refusal}
use Rattle.giv_files.specs.declared.stage.Stage.TheVariants as stage
use Rattle.tables.proofs.Common.{input_faults, records_of, AllName, input_names, names_both}
use Rattle.tables.proofs.Common.{names_only}
use Rattle.giv_files.proofs.Common.{BundleParts, input_text}
use Rattle.event_tables.proofs.Common.{disposed_time_input, expanded_activity_input}
use Rattle.event_tables.proofs.Common.{expanded_event_ids, expanded_event_input, schedule_input}
use Rattle.delay_management.specs.DispositionStage.{events_in, made_faults}
use Rattle.delay_management.specs.RightDispositions.{DispositionFilesAreRight}
use Rattle.delay_management.proofs.DispositionMakes.{disposition_names_delays, disposition_stage_makes}
use Rattle.delay_management.proofs.DispositionReads.{disposition_is_right}
use Rattle.stage_chain.specs.declared.rule.Rule.{Rule}
use Rattle.stage_chain.specs.Hand.{is_hand, is_hand_file}
use Rattle.stage_chain.specs.Laws.{IsRightOver, bundle_over}
use Rattle.planning_stages.specs.Places.{in_place}
use Rattle.planning_stages.specs.Planning.{planning, stage_model}
use Rattle.planning_stages.specs.Verdicts.{disposition_verdict, judged_found}
use Rattle.planning_stages.proofs.ContentFiles.{both_stand}
use Rattle.planning_stages.proofs.RolloutLaws.{day_made}
use Rattle.planning_stages.proofs.StageLaws.{StageLaws, any, fine}
use Rattle.planning_stages.proofs.VehicleLaws.{schedule_accepted}

-- what it refuses of the files that other stages make is a row of them
made_named : (bundle : BundleParts) → AllName any (made_faults bundle)
made_named bundle =
    names_both any _ _ (input_names any expanded_event_input (input_text bundle 0) refl)
    (names_both any _ _ (input_names any (expanded_activity_input (events_in bundle)) (input_text bundle 1) refl)
    (input_names any (schedule_input (events_in bundle)) (input_text bundle 2) refl))

-- times without reasons beside them are found at fault
bare_times : (faults : List Refusal) (rule : Rule)
    → judged_found stage.Disposition (λ (rule : Rule). rule) faults (Some rule) ≡ None → ⊥
bare_times (first ∷ more) rule none = absurd (cc)
bare_times [] rule none = absurd (cc)

disposition_none : (bundle : BundleParts) (there : List MadeFile) → DispositionFilesAreRight bundle there
    → disposition_verdict bundle there ≡ None
disposition_none bundle there right = rw (right.both, right.inputs, right.passes) refl

module _ (values : List ℤ) (look : FileId → List ℕ) where
  plans_accepted : IsRightOver planning values look stage.Rollout
      → IsRightOver planning values look (in_place values stage.Vehicles)
      → made_faults (bundle_over values look stage.Disposition) ≡ []
  unfolding events_in
  plans_accepted day vehicles =
      let made = day_made values look day in
      rw (made.events_fine, made.activities_fine, schedule_accepted values look day vehicles) refl

  -- what it made is accepted over the events of the day
  pub disposition_accepted : IsRightOver planning values look stage.Disposition
      → input_faults (disposed_time_input (expanded_event_ids (records_of expanded_event_input (look file.EventsX))))
      (look file.Disposed) ≡ []
  unfolding events_in planning stage_model
  disposition_accepted disposition = grind arith

pub disposition_laws : StageLaws stage.Disposition
unfolding planning stage_model is_hand
disposition_laws = record {
  makes = disposition_stage_makes;
  right = disposition_is_right;
  refuses =
      λ values look reason was is. names_only is_hand_file reason
      (disposition_names_delays is_hand_file refl refl (bundle_over values look stage.Disposition) reason
      (fine (plans_accepted values look (was stage.Rollout refl) (was stage.Vehicles refl))) is);
  names = λ bundle reason is. inr (disposition_names_delays any refl refl bundle reason (made_named bundle) is);
  stand =
      λ values folder bundle lacks none. grind (arith, both_stand, bare_times);
  unbroken = λ values look made own. disposition_none (bundle_over values look stage.Disposition) made.files own.1;
}
