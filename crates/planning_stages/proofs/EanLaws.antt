-- What the stage of the periodic network owes to the chain, and what later stages take of it.
use Rattle.plan_num.proofs.Common.{◌≡◌, ℕ, ℤ, List, [], Some, inr, refl, arith}
use Rattle.tables.specs.declared.file_id.FileId.{FileId}
use Rattle.tables.specs.declared.file_id.FileId.TheVariants as file
use Rattle.giv_files.specs.declared.stage.Stage.TheVariants as stage
use Rattle.giv_files.proofs.Common.{input_text}
use Rattle.tables.proofs.Common.{names_only, front_none}
use Rattle.ptn_network.specs.Networks.{network_faults, network_of, stops_of}
use Rattle.event_activity.specs.EanStage.{network_in}
use Rattle.event_activity.specs.RightEan.{EanFilesAreRight, EanIsAccepted}
use Rattle.event_activity.proofs.EanMakes.{ean_stage_makes}
use Rattle.event_activity.proofs.EanNames.{concept_names, ean_stage_names}
use Rattle.event_activity.proofs.EanReads.{ean_is_right}
use Rattle.pesp_model.specs.PespTexts.{events_of, problem_faults}
use Rattle.pesp_search.specs.TimetableStage.{timetable_faults}
use Rattle.roll_out.specs.RightRollout.{AtStops}
use Rattle.stage_chain.specs.Hand.{is_hand, is_hand_file}
use Rattle.stage_chain.specs.Laws.{IsRightOver, bundle_over, files_over}
use Rattle.planning_stages.specs.Planning.{planning, stage_model}
use Rattle.planning_stages.proofs.ConceptLaws.{concept_accepted}
use Rattle.planning_stages.proofs.ContentFiles.{content_none, content_stands}
use Rattle.planning_stages.proofs.OneLook.{both_own}
use Rattle.planning_stages.proofs.StageLaws.{StageLaws, any, fine}
use Rattle.planning_stages.proofs.EventsAtStops.{rows_at_stops}

pub ean_laws : StageLaws stage.Ean
unfolding planning stage_model is_hand
ean_laws = record {
  makes = ean_stage_makes;
  right = ean_is_right;
  refuses =
      λ values look reason was is. names_only is_hand_file reason
      (ean_stage_names is_hand_file refl refl (bundle_over values look stage.Ean) reason
      (fine (concept_accepted values look (was stage.Concept refl))) is);
  names =
      λ bundle reason is. inr
      (ean_stage_names any refl refl bundle reason
      (concept_names any refl (network_in bundle.inputs) (input_text bundle 2)) is);
  stand = λ values folder bundle lacks none. content_stands stage.Ean refl refl folder lacks;
  unbroken = λ values look made own. content_none stage.Ean _ made own.0;
}

module _ (values : List ℤ) (look : FileId → List ℕ) (ean : IsRightOver planning values look stage.Ean) where
  made_right : EanFilesAreRight (bundle_over values look stage.Ean) (files_over look ean.ids)
  unfolding planning stage_model
  made_right = ean.right

  -- its two files have no fault
  pub network_accepted : EanIsAccepted (look file.EventsP) (look file.ActivitiesP)
  network_accepted = grind (arith, made_right, both_own)

  pub periodic_accepted : timetable_faults (bundle_over values look stage.Timetable) ≡ []
  unfolding problem_faults events_of
  periodic_accepted = rw (network_accepted.events_fine, network_accepted.activities_fine) refl

  -- the periodic events are at stops
  pub at_stops : AtStops (Some (stops_of (look file.Stop))) (events_of (look file.EventsP))
  unfolding network_of network_faults events_of
  at_stops = grind (arith, made_right, both_own, front_none, rows_at_stops)
