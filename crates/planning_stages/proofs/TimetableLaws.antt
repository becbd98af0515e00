-- What the stages of the timetable owe to the chain, and what later stages take of the timetable.
use Rattle.plan_num.proofs.Common.{arith, ◌≡◌, ℕ, ℤ, Bool, true, false, cond, inl, inr, List, []}
use Rattle.plan_num.proofs.Common.{None, refl, subst, sym, Contains}
use Rattle.tables.specs.declared.file_id.FileId.{FileId}
use Rattle.tables.specs.declared.file_id.FileId.TheVariants as file
use Rattle.giv_files.specs.declared.key.Key.TheVariants as key
use Rattle.giv_files.specs.declared.made.MadeFile.{MadeFile}
use Rattle.giv_files.specs.declared.stage.Stage.TheVariants as stage
use Rattle.tables.proofs.Common.{input_faults, names_only}
use Rattle.giv_files.specs.Keys.{stage_keys}
use Rattle.giv_files.proofs.Common.{ids_of, BundleParts, amount}
use Rattle.config_keys.proofs.Common.{part_of}
use Rattle.event_tables.proofs.Common.{periodic_event_ids, periodic_time_input}
use Rattle.pesp_model.specs.PespTexts.{events_of}
use Rattle.pesp_search.specs.RightTimetables.{TimetableFilesAreRight}
use Rattle.pesp_search.proofs.PinnedLaws.{pinned_timetable_makes, pinned_timetable_names}
use Rattle.pesp_search.proofs.PinnedLaws.{pinned_timetable_right, right_where_same}
use Rattle.pesp_search.proofs.TimetableMakes.{timetable_faults_name, timetable_stage_makes, timetable_stage_names}
use Rattle.pesp_search.proofs.TimetableReads.{timetable_is_right}
use Rattle.stage_chain.specs.Checks.{standing}
use Rattle.stage_chain.specs.Hand.{is_hand, is_hand_file}
use Rattle.stage_chain.specs.Laws.{IsRightOver, bundle_over, files_over}
use Rattle.planning_stages.specs.Places.{in_place, is_pinned}
use Rattle.planning_stages.specs.Planning.{planning, stage_model}
use Rattle.planning_stages.specs.Verdicts.{timetable_verdict}
use Rattle.planning_stages.proofs.ContentFiles.{content_stands}
use Rattle.planning_stages.proofs.EanLaws.{periodic_accepted}
use Rattle.planning_stages.proofs.OneLook.{first_own}
use Rattle.planning_stages.proofs.PinnedPlaces.{times_lists}
use Rattle.planning_stages.proofs.StageLaws.{StageLaws, any, fine}

timetable_none : (bundle : BundleParts) (there : List MadeFile) → TimetableFilesAreRight bundle there
    → timetable_verdict bundle there ≡ None
timetable_none bundle there right = rw (right.one, right.inputs, right.passes) refl

module _ (values : List ℤ) (look : FileId → List ℕ) where
  -- the period is the same for each stage that has it
  same_period : amount (part_of values stage.PinnedTimetable) key.PeriodLength
      ≡ amount (part_of values stage.Timetable) key.PeriodLength
  unfolding stage_keys
  same_period = refl

  -- whoever gives the timetable, it is right over what the plain stage is given
  pub times_right_by : (pinned : Bool) (files : List MadeFile)
      → (stage_model (cond pinned stage.PinnedTimetable stage.Timetable)).IsRight
      (bundle_over values look (cond pinned stage.PinnedTimetable stage.Timetable)) files
      → TimetableFilesAreRight (bundle_over values look stage.Timetable) files
  unfolding stage_model
  times_right_by true files right =
      right_where_same (bundle_over values look stage.PinnedTimetable) (bundle_over values look stage.Timetable) files
      same_period refl refl right
  times_right_by false files right = right

  pub times_right : (times : IsRightOver planning values look (in_place values stage.Timetable))
      → TimetableFilesAreRight (bundle_over values look stage.Timetable) (files_over look times.ids)
  unfolding planning
  times_right times = times_right_by (is_pinned values key.PinTimetable) (files_over look times.ids) times.right

  pub times_accepted : IsRightOver planning values look (in_place values stage.Timetable) → (period : ℕ)
      → amount (part_of values stage.Timetable) key.PeriodLength ≡ period
      → input_faults (periodic_time_input file.TimesP period (periodic_event_ids (events_of (look file.EventsP))))
      (look file.TimesP) ≡ []
  times_accepted times period same =
      let right = times_right times in grind (arith, first_own)

pub timetable_laws : StageLaws stage.Timetable
unfolding planning stage_model is_hand
timetable_laws = record {
  makes = timetable_stage_makes;
  right = timetable_is_right;
  refuses =
      λ values look reason was is. timetable_stage_names is_hand_file (bundle_over values look stage.Timetable) reason
      (fine (periodic_accepted values look (was stage.Ean refl))) is;
  names = λ bundle reason is. inl tt;
  stand =
      λ values folder bundle lacks none. subst (λ lists. Contains lists (ids_of (standing folder stage.Timetable)))
      (sym (times_lists values)) (content_stands stage.Timetable refl refl folder lacks);
  unbroken =
      λ values look made own. timetable_none (bundle_over values look stage.Timetable) made.files
      (times_right_by values look (is_pinned values key.PinTimetable) made.files own.1);
}

pub pinned_timetable_laws : StageLaws stage.PinnedTimetable
unfolding planning stage_model is_hand
pinned_timetable_laws = record {
  makes = pinned_timetable_makes;
  right = pinned_timetable_right;
  refuses =
      λ values look reason was is. names_only is_hand_file reason
      (pinned_timetable_names is_hand_file refl (bundle_over values look stage.PinnedTimetable) reason
      (fine (periodic_accepted values look (was stage.Ean refl))) is);
  names =
      λ bundle reason is. inr
      (pinned_timetable_names any refl bundle reason (timetable_faults_name any refl refl bundle) is);
  stand = λ values folder bundle lacks none. content_stands stage.PinnedTimetable refl refl folder lacks;
  unbroken = λ values look made own. refl;
}
