-- The plans that a run leaves are feasible, and best where certificates stand beside them.
use Rattle.plan_num.proofs.Common.{arith, ◌≡◌, ℕ, ℤ, Bool, true, false, cond, is_some, List}
use Rattle.plan_num.proofs.Common.{[], ◌∷◌, ◌++◌, map, Option, Some, None, IfSome, IfOk, Result, Ok}
use Rattle.plan_num.proofs.Common.{Err, Contains, ◌⊎◌, inl, inr, ⊎_elim, refl, ap, subst, sym, ◌∙◌}
use Rattle.plan_num.proofs.Common.{nat_cmp, slice_cmp, list_all, and_from, and_parts, false≢true}
use Rattle.plan_num.proofs.Common.{map-append, All-contains, AllPass-from_list_all}
use Rattle.std.specs.FinMap as files
use Rattle.plan_files.proofs.Common.{Folder, get_part}
use Rattle.tables.specs.declared.file_id.FileId.{FileId}
use Rattle.tables.specs.declared.file_id.FileId.TheVariants as file
use Rattle.giv_files.specs.declared.key.Key.TheVariants as key
use Rattle.giv_files.specs.declared.made.MadeFile.{MadeFile}
use Rattle.giv_files.specs.declared.stage.Stage.{Stage}
use Rattle.giv_files.specs.declared.stage.Stage.TheVariants as stage
use Rattle.tables.proofs.Common.{file_name}
use Rattle.giv_files.proofs.Common.{BundleParts, stage_inputs, stage_makes}
use Rattle.config_keys.specs.declared.config_fault.ConfigFault.{ConfigFault}
use Rattle.config_keys.proofs.Common.{look_in, effective}
use Rattle.vehicle_flow.specs.RightSchedules.{ScheduleIsRight}
use Rattle.vehicle_flow.specs.RightVehicles.{VehicleFilesAreRight}
use Rattle.delay_management.specs.RightDispositions.{DispositionFilesAreRight}
use Rattle.stage_chain.specs.declared.cause.Cause.{Cause}
use Rattle.command_line.specs.declared.mode.Mode.{Mode}
use Rattle.stage_chain.specs.Built.{files_of, trace_of, trace_under}
use Rattle.stage_chain.specs.Chain.{Visit, bundle_by}
use Rattle.stage_chain.specs.Hand.{hand_of, is_among, names_made_by}
use Rattle.stage_chain.specs.Laws.{bundle_over}
use Rattle.stage_chain.specs.Right.{AllStandRight, MadeFilesAreRight, StandsRight, files_by, found_file, text_in}
use Rattle.stage_chain.specs.Runs.{after, name_of, started, with_files}
use Rattle.stage_chain.specs.StageLists.{differs_from}
use Rattle.stage_chain.specs.StageParts.{staged}
use Rattle.stage_chain.proofs.BothModes.{honest_start, started_hand}
use Rattle.stage_chain.proofs.Differing.{all_both, not_among}
use Rattle.stage_chain.proofs.Left.{other_with}
use Rattle.stage_chain.proofs.FilesLeftAreRight.{files_are, settings_after}
use Rattle.stage_chain.proofs.Looked.{bundle_looked, front_given, looked}
use Rattle.planning_stages.specs.Places.{is_pinned}
use Rattle.planning_stages.specs.Planning.{planning, stage_model}
use Rattle.planning_stages.proofs.ConceptLaws.{concept_right_by}
use Rattle.planning_stages.proofs.Laws.{planning_laws}
use Rattle.planning_stages.proofs.TimetableLaws.{times_right_by}
use Rattle.planning_stages.proofs.VehicleLaws.{schedule_right_by}
use Rattle.stage_driver.specs.BestPlans.{ConceptIsCheapest, DispositionIsEarliest}
use Rattle.stage_driver.specs.BestPlans.{IsMarkedUnlessPinned, PlansAreBest, ScheduleIsCheapest}
use Rattle.stage_driver.specs.FeasiblePlans.{ConceptIsFeasible, PlansAreFeasible}
use Rattle.stage_driver.specs.FeasiblePlans.{ScheduleIsFeasible, TimetableIsFeasible}
use Rattle.stage_driver.specs.PlanningChain.{Trusts, made, made_part}
use Rattle.stage_driver.specs.PlansThere.{each_stage, is_there}
use Rattle.stage_driver.proofs.Planned.{chain_laws, part_left}
use Rattle.stage_driver.proofs.PlansStand.{ConceptHolds, ScheduleHolds, concept_holds, disposition_holds}
use Rattle.stage_driver.proofs.PlansStand.{potentials_there, schedule_holds, timetable_holds}

-- ---- a stage that a person pins does not run where none is pinned

is_other : Stage → Bool
is_other stage.PinnedVehicles = false
is_other stage.Load = true
is_other _ = true

staged_others : (values : List ℤ) (concept times vehicles : Bool)
    → is_pinned values key.PinConcept ≡ concept → is_pinned values key.PinTimetable ≡ times
    → is_pinned values key.PinVehicles ≡ vehicles → vehicles ≡ false
    → list_all is_other (staged planning values) ≡ true
unfolding planning is_other
staged_others values concept times true a b c plain = absurd (false≢true (sym plain))
staged_others values true true false a b c plain = rw (a, b, c) refl
staged_others values true false false a b c plain = rw (a, b, c) refl
staged_others values false true false a b c plain = rw (a, b, c) refl
staged_others values false false false a b c plain = rw (a, b, c) refl

not_pinned : (values : List ℤ) → is_pinned values key.PinVehicles ≡ false
    → Contains (staged planning values) stage.PinnedVehicles → ⊥
unfolding is_other
not_pinned values plain runs =
    false≢true (All-contains (λ at. is_other at ≡ true) (staged planning values) stage.PinnedVehicles
    (AllPass-from_list_all is_other (staged planning values)
    (staged_others values (is_pinned values key.PinConcept) (is_pinned values key.PinTimetable)
    (is_pinned values key.PinVehicles) refl refl refl plain)) runs)

-- ---- a file that stands in the folder that is left was made by a stage

-- a name differs from those of some files
abbrev NoneHas : FileId → List MadeFile → Type 0
NoneHas file some = differs_from (map name_of some) (file_name file) ≡ true

-- a name that is none of those that are sought is none of those that are found
found_differ : (look : FileId → Result (List ℕ) Cause) (name : FileId) (some : List FileId)
    → differs_from (map file_name some) (file_name name) ≡ true → NoneHas name (files_by look some)
found_differ look name [] differ = refl
found_differ look name (file ∷ some) differ =
    by (look file) (found_differ look name some (and_parts _ _ differ).1)
  where
    by : (found : Result (List ℕ) Cause) → NoneHas name (files_by look some)
        → NoneHas name (found_file file found (files_by look some))
    by (Ok text) rest = and_from _ _ (and_parts _ _ differ).0 rest
    by (Err why) rest = rest

module _ (Holds : Type 0) (file : FileId) where
  -- something holds, or none of some files is one
  abbrev HoldsOr : List MadeFile → Type 0
  HoldsOr some = Holds ⊎ NoneHas file some

  both_or : (some others : List MadeFile) → HoldsOr some → HoldsOr others → HoldsOr (some ++ others)
  both_or some others (inl holds) rest = inl holds
  both_or some others (inr none) (inl holds) = inl holds
  both_or some others (inr none) (inr other) = grind (arith, map-append, all_both)

  visits_or : (look : FileId → Result (List ℕ) Cause) (values : List ℤ) (visits : List Visit)
      → AllStandRight planning look values visits
      → ((bundle : BundleParts) (some : List MadeFile) → StandsRight planning look values bundle some → HoldsOr some)
      → HoldsOr (files_of visits)
  visits_or look values [] right each = inr refl
  visits_or look values (visit ∷ visits) right each = grind (
    arith,
    both_or,
    visits_or look values
        visits right.1 each,
  )

-- what stands in a folder under the name of a file that stages make was made
made_there : (some : List MadeFile) (folder : Folder) (name : List ℕ)
    → is_among name (names_made_by planning.places) ≡ true
    → made_part folder ≡ with_files some files.empty → is_some (files.get folder name) ≡ true
    → is_among name (map name_of some) ≡ true
made_there some folder name own same there = by (is_among name (map name_of some)) refl
  where
    part : files.get (made_part folder) name ≡ files.get folder name
    part = get_part (λ name. is_among name (names_made_by planning.places)) folder name
        ∙ ap (λ own. cond own (files.get folder name) None) own

    by : (among : Bool) → is_among name (map name_of some) ≡ among → among ≡ true
    by true is = refl
    by false is =
        absurd (false≢true
        (ap is_some
        (sym (files.get-empty (slice_cmp nat_cmp) name) ∙ sym (other_with some files.empty name is)
        ∙ ap (λ folder. files.get folder name) (sym same) ∙ part) ∙ there))

-- ---- each place by the stage that ran there

module _ (folder : Folder) (values : List ℤ) (settled : effective (look_in folder) ≡ Ok values) where
  abbrev look : FileId → Result (List ℕ) Cause
  look = text_in folder

  -- what a place is given there
  abbrev given_to : Stage → BundleParts
  given_to at = bundle_over values (looked look) at

  abbrev Right : Stage → BundleParts → List MadeFile → Type 0
  Right at bundle some = (stage_model at).IsRight bundle some

  -- what is right over what a stage is given is right over the texts there
  over_looked : (at : Stage) (bundle : BundleParts) (some : List MadeFile)
      → bundle_by look values at ≡ Ok bundle → Right at bundle some → Right at (given_to at) some
  over_looked at bundle some given right = grind (arith, bundle_looked)

  concept_by : (pinned : Bool) (bundle : BundleParts) (more : List FileId)
      → stage_inputs (cond pinned stage.PinnedConcept stage.Concept) ≡ stage_inputs stage.Concept ++ more
      → bundle_by look values (cond pinned stage.PinnedConcept stage.Concept) ≡ Ok bundle
      → (some : List MadeFile) → files_by look (stage_makes stage.Concept) ≡ some
      → Right (cond pinned stage.PinnedConcept stage.Concept) bundle some
      → ConceptHolds folder values settled
  concept_by pinned bundle more inputs given some found right =
      let own = concept_right_by values (looked look) pinned
      some (over_looked (cond pinned stage.PinnedConcept stage.Concept) bundle some given right) in
      concept_holds folder values settled (given_to stage.Concept)
      (front_given look values (cond pinned stage.PinnedConcept stage.Concept) stage.Concept more bundle inputs given)
      own.inputs own.text own.tree (found ∙ own.each)
      (record { frequencies = own.frequencies; reads = own.reads; feasible = own.feasible; marked = own.marked })

  times_by : (pinned : Bool) (bundle : BundleParts) (more : List FileId)
      → stage_inputs (cond pinned stage.PinnedTimetable stage.Timetable) ≡ stage_inputs stage.Timetable ++ more
      → bundle_by look values (cond pinned stage.PinnedTimetable stage.Timetable) ≡ Ok bundle
      → (some : List MadeFile) → files_by look (stage_makes stage.Timetable) ≡ some
      → Right (cond pinned stage.PinnedTimetable stage.Timetable) bundle some
      → TimetableIsFeasible folder
  times_by pinned bundle more inputs given some found right =
      let own = times_right_by values (looked look) pinned
      some (over_looked (cond pinned stage.PinnedTimetable stage.Timetable) bundle some given right) in
      timetable_holds folder values settled (given_to stage.Timetable)
      (front_given look values (cond pinned stage.PinnedTimetable stage.Timetable) stage.Timetable more bundle inputs
      given) own.inputs own.text (found ∙ own.one)
      (record { times = own.times; reads = own.reads; timetable = own.timetable })

  schedule_by : (pinned : Bool) (bundle : BundleParts) (more : List FileId)
      → stage_inputs (cond pinned stage.PinnedVehicles stage.Vehicles) ≡ stage_inputs stage.Vehicles ++ more
      → bundle_by look values (cond pinned stage.PinnedVehicles stage.Vehicles) ≡ Ok bundle
      → (some : List MadeFile) → files_by look (stage_makes stage.Vehicles) ≡ some
      → Right (cond pinned stage.PinnedVehicles stage.Vehicles) bundle some
      → ScheduleHolds folder values settled
  schedule_by pinned bundle more inputs given some found right =
      let own = schedule_right_by values (looked look) pinned
      some (over_looked (cond pinned stage.PinnedVehicles stage.Vehicles) bundle some given right) in
      schedule_holds folder values settled (given_to stage.Vehicles)
      (front_given look values (cond pinned stage.PinnedVehicles stage.Vehicles) stage.Vehicles more bundle inputs
      given)
      (subst (ScheduleIsRight (given_to stage.Vehicles)) (sym found) own.right)

  disposition_by : (bundle : BundleParts) → bundle_by look values stage.Disposition ≡ Ok bundle
      → (some : List MadeFile) → files_by look (stage_makes stage.Disposition) ≡ some
      → DispositionFilesAreRight bundle some → DispositionIsEarliest folder
  disposition_by bundle given some found right =
      disposition_holds folder values settled bundle given
      (record {
        inputs = right.inputs;
        times = right.times_text;
        reasons = right.reasons_text;
        both = found ∙ right.both;
        passes = record {
          times = right.times;
          reasons = right.reasons;
          times_read = right.times_back;
          reasons_read = right.reasons_back;
          disposition = right.disposition;
          right = right.right;
        };
      })

  marked_by : (bundle : BundleParts) (some : List MadeFile)
      → files_by look (stage_makes stage.Vehicles) ≡ some → VehicleFilesAreRight bundle some
      → is_there folder file.Potential ≡ true
  marked_by bundle some found right = grind (arith, potentials_there)

  -- a stage stands right there, or has not the name of a file
  abbrev AtOr : (Holds : Type 0) (name : FileId) → Stage → Type 0
  AtOr Holds name at = (bundle : BundleParts) (some : List MadeFile) → Contains (staged planning values) at
      → bundle_by look values at ≡ Ok bundle → files_by look (stage_makes at) ≡ some
      → planning.IsRight at bundle some → HoldsOr Holds name some

  concept_or : (at : Stage) → AtOr (ConceptHolds folder values settled) file.Concept at
  unfolding planning
  concept_or stage.Concept =
      λ bundle some runs given found right. inl (concept_by false bundle [] refl given some found right)
  concept_or stage.PinnedConcept =
      λ bundle some runs given found right. inl
      (concept_by true bundle (file.PinnedConcept ∷ file.PinnedTree ∷ []) refl given some found right)
  concept_or at =
      λ bundle some runs given found right. inr
      (subst (NoneHas file.Concept) found (found_differ look file.Concept (stage_makes at) refl))

  tree_or : (at : Stage) → AtOr (ConceptHolds folder values settled) file.Tree at
  unfolding planning
  tree_or stage.Concept =
      λ bundle some runs given found right. inl (concept_by false bundle [] refl given some found right)
  tree_or stage.PinnedConcept =
      λ bundle some runs given found right. inl
      (concept_by true bundle (file.PinnedConcept ∷ file.PinnedTree ∷ []) refl given some found right)
  tree_or at =
      λ bundle some runs given found right. inr
      (subst (NoneHas file.Tree) found (found_differ look file.Tree (stage_makes at) refl))

  times_or : (at : Stage) → AtOr (TimetableIsFeasible folder) file.TimesP at
  unfolding planning
  times_or stage.Timetable =
      λ bundle some runs given found right. inl (times_by false bundle [] refl given some found right)
  times_or stage.PinnedTimetable =
      λ bundle some runs given found right. inl
      (times_by true bundle (file.PinnedTimes ∷ []) refl given some found right)
  times_or at =
      λ bundle some runs given found right. inr
      (subst (NoneHas file.TimesP) found (found_differ look file.TimesP (stage_makes at) refl))

  schedule_or : (at : Stage) → AtOr (ScheduleHolds folder values settled) file.Schedule at
  unfolding planning
  schedule_or stage.Vehicles =
      λ bundle some runs given found right. inl (schedule_by false bundle [] refl given some found right)
  schedule_or stage.PinnedVehicles =
      λ bundle some runs given found right. inl
      (schedule_by true bundle (file.PinnedSchedule ∷ file.PinnedPotential ∷ []) refl given some found right)
  schedule_or at =
      λ bundle some runs given found right. inr
      (subst (NoneHas file.Schedule) found (found_differ look file.Schedule (stage_makes at) refl))

  potentials_or : (at : Stage) → AtOr (ScheduleHolds folder values settled) file.Potential at
  unfolding planning
  potentials_or stage.Vehicles =
      λ bundle some runs given found right. inl (schedule_by false bundle [] refl given some found right)
  potentials_or stage.PinnedVehicles =
      λ bundle some runs given found right. inl
      (schedule_by true bundle (file.PinnedSchedule ∷ file.PinnedPotential ∷ []) refl given some found right)
  potentials_or at =
      λ bundle some runs given found right. inr
      (subst (NoneHas file.Potential) found (found_differ look file.Potential (stage_makes at) refl))

  disposed_or : (at : Stage) → AtOr (DispositionIsEarliest folder) file.Disposed at
  unfolding planning stage_model
  disposed_or stage.Disposition =
      λ bundle some runs given found right. inl (disposition_by bundle given some found right)
  disposed_or at =
      λ bundle some runs given found right. inr
      (subst (NoneHas file.Disposed) found (found_differ look file.Disposed (stage_makes at) refl))

  -- where no schedule is pinned, potentials are there
  abbrev IsMarked : Type 0
  IsMarked = is_pinned values key.PinVehicles ≡ false → is_there folder file.Potential ≡ true

  marked_or : (at : Stage) → AtOr IsMarked file.Schedule at
  unfolding planning stage_model
  marked_or stage.Vehicles = λ bundle some runs given found right. inl (λ plain. marked_by bundle some found right)
  marked_or stage.PinnedVehicles = grind (arith, not_pinned)
  marked_or at = grind (arith, found_differ)

  -- the same of all stages that were made
  all_or : (Holds : Type 0) (name : FileId) → ((at : Stage) → AtOr Holds name at) → (visits : List Visit)
      → AllStandRight planning look values visits → HoldsOr Holds name (files_of visits)
  all_or Holds name each visits right = visits_or Holds name look values visits right
      (λ bundle some stands. each bundle.stage bundle some stands.runs stands.given stands.found stands.right)

-- ---- the folder that is left

-- what is promised of the plans of a folder
record PlansHold (folder : Folder) : Type 0 where
  pub feasible : PlansAreFeasible each_stage folder
  pub best : PlansAreBest each_stage folder

module _ (folder : Folder) (visits : List Visit)
    (same : made_part folder ≡ with_files (files_of visits) files.empty) where
  -- what holds, or else no file that was made has a name, holds where one stands there
  taken : (Holds : Type 0) (name : FileId) → is_among (file_name name) (names_made_by planning.places) ≡ true
      → HoldsOr Holds name (files_of visits) → is_there folder name ≡ true → Holds
  taken Holds name own made there =
      ⊎_elim (λ holds. holds)
      (λ none.
      absurd (false≢true
      (sym (not_among (map name_of (files_of visits)) (file_name name) none)
      ∙ made_there (files_of visits) folder (file_name name) own same there))) made

  settled_hold : (values : List ℤ) → effective (look_in folder) ≡ Ok values
      → AllStandRight planning (text_in folder) values visits → PlansHold folder
  unfolding planning
  settled_hold values settled right =
      let concept = all_or folder values settled _ file.Concept (concept_or folder values settled) visits right in
      let tree = all_or folder values settled _ file.Tree (tree_or folder values settled) visits right in
      let times = all_or folder values settled _ file.TimesP (times_or folder values settled) visits right in
      let schedule = all_or folder values settled _ file.Schedule (schedule_or folder values settled) visits right in
      let potentials =
      all_or folder values settled _ file.Potential (potentials_or folder values settled) visits right in
      let disposed = all_or folder values settled _ file.Disposed (disposed_or folder values settled) visits right in
      let marked = all_or folder values settled _ file.Schedule (marked_or folder values settled) visits right in
      record {
        feasible = record {
          concept = λ stands. (taken (ConceptHolds folder values settled) file.Concept refl concept stands.1).feasible;
          timetable = λ stands. taken (TimetableIsFeasible folder) file.TimesP refl times stands.1;
          schedule =
              λ stands. (taken (ScheduleHolds folder values settled) file.Schedule refl schedule stands.1).feasible;
        };
        best = record {
          concept =
              λ stands. (taken (ConceptHolds folder values settled) file.Tree refl tree stands.1).cheapest stands.1;
          schedule =
              λ stands. (taken (ScheduleHolds folder values settled) file.Potential refl potentials stands.1).cheapest
              stands.1;
          disposition = λ stands. taken (DispositionIsEarliest folder) file.Disposed refl disposed stands.1;
          marked =
              λ stands.
              subst (λ settings. IfOk settings
              (λ values. is_pinned values key.PinVehicles ≡ false → is_there folder file.Potential ≡ true))
              (sym settled)
              (taken (IsMarked folder values settled) file.Schedule refl marked stands.1);
        };
      }

  -- where no stage was made, no plan stands there
  none_hold : visits ≡ [] → PlansHold folder
  unfolding planning
  none_hold none =
      let none_or : (Holds : Type 0) (name : FileId) → HoldsOr Holds name (files_of visits) =
      λ Holds name. inr (ap (λ visits. differs_from (map name_of (files_of visits)) (file_name name)) none) in
      record {
        feasible = record {
          concept = λ stands. taken (ConceptIsFeasible folder) file.Concept refl (none_or _ file.Concept) stands.1;
          timetable = λ stands. taken (TimetableIsFeasible folder) file.TimesP refl (none_or _ file.TimesP) stands.1;
          schedule = λ stands. taken (ScheduleIsFeasible folder) file.Schedule refl (none_or _ file.Schedule) stands.1;
        };
        best = record {
          concept = λ stands. taken (ConceptIsCheapest folder) file.Tree refl (none_or _ file.Tree) stands.1;
          schedule =
              λ stands. taken (ScheduleIsCheapest folder) file.Potential refl (none_or _ file.Potential) stands.1;
          disposition =
              λ stands. taken (DispositionIsEarliest folder) file.Disposed refl (none_or _ file.Disposed) stands.1;
          marked = λ stands. taken (IsMarkedUnlessPinned folder) file.Schedule refl (none_or _ file.Schedule) stands.1;
        };
      }

-- a chain whose settings are refused makes no stage
refused_none : (hand : Folder) (reason : ConfigFault) → effective (look_in hand) ≡ Err reason
    → (trace_of planning hand).visits ≡ []
unfolding trace_of
refused_none hand reason is = ap (λ settings. (trace_under planning settings hand).visits) is

module _ (by : Mode) (read : Folder) (trusts : Trusts by read) where
  abbrev left_folder : Folder
  left_folder = after planning (started by read)

  abbrev hand : Folder
  hand = hand_of (started by read)

  left_files : made_part left_folder ≡ with_files (files_of (trace_of planning hand).visits) files.empty
  left_files =
      subst (λ hand. made_part left_folder ≡ with_files (made hand).files files.empty) (sym (started_hand by read))
      (part_left by read (Some left_folder) trusts refl)
      ∙ ap (λ some. with_files some files.empty) (files_are planning planning_laws hand (trace_of planning hand) refl)

  plans_hold : PlansHold left_folder
  unfolding MadeFilesAreRight
  plans_hold =
      by_settings (effective (look_in left_folder)) refl
      (chain_laws.made_files_are_right (started by read) (honest_start planning planning_laws by read trusts))
    where
      by_settings : (settings : Result (List ℤ) ConfigFault) → effective (look_in left_folder) ≡ settings
          → IfOk settings
          (λ values. AllStandRight planning (text_in left_folder) values (trace_of planning hand).visits)
          → PlansHold left_folder
      by_settings (Err reason) is right =
          none_hold left_folder (trace_of planning hand).visits left_files
          (refused_none hand reason (sym (settings_after planning planning_laws (started by read)) ∙ is))
      by_settings (Ok values) is right =
          settled_hold left_folder (trace_of planning hand).visits left_files values is right

-- In the folder that a run leaves over what it may trust, the plans are feasible.
pub feasible_left : (by : Mode) (read : Folder) (left : Option Folder) → Trusts by read
    → left ≡ Some (after planning (started by read)) → IfSome left (PlansAreFeasible each_stage)
feasible_left by read left trusts is = grind (arith, plans_hold)

-- And none is better than those that have a certificate beside them.
pub best_left : (by : Mode) (read : Folder) (left : Option Folder) → Trusts by read
    → left ≡ Some (after planning (started by read)) → IfSome left (PlansAreBest each_stage)
best_left by read left trusts is =
    subst (λ left. IfSome left (PlansAreBest each_stage)) (sym is) (plans_hold by read trusts).best
