-- What the models of the stages say of the files that stand in a folder, as promises of its plans.
use Rattle.plan_num.proofs.Common.{◌≡◌, ℕ, ℤ, true, is_some, List, [], ◌∷◌, map, length, Option}
use Rattle.plan_num.proofs.Common.{Some, None, IfSome, Ok, option_to_list, refl, ap, sym, ◌∙◌}
use Rattle.plan_num.proofs.Common.{arith, ints, ok_or}
use Rattle.std.specs.FinMap as files
use Rattle.plan_files.proofs.Common.{Folder}
use Rattle.tables.specs.declared.file_id.FileId.{FileId}
use Rattle.tables.specs.declared.file_id.FileId.TheVariants as file
use Rattle.giv_files.specs.declared.made.MadeFile.{MadeFile}
use Rattle.giv_files.specs.declared.stage.Stage.TheVariants as stage
use Rattle.tables.proofs.Common.{file_name}
use Rattle.giv_files.proofs.Common.{ids_of, BundleParts}
use Rattle.config_keys.proofs.Common.{look_in, effective, effective_settings}
use Rattle.line_search.specs.GivenProblems.{problem_faults, problem_of}
use Rattle.line_search.specs.Judged.{Passes}
use Rattle.line_search.specs.ConceptStage.{mark_files}
use Rattle.pesp_search.specs.Judged.{Passes as KeepsRules}
use Rattle.pesp_search.specs.TimetableStage.{problem_in, timetable_faults}
use Rattle.vehicle_model.specs.DrivenSchedules.{ReadsWhatIsDriven}
use Rattle.vehicle_model.specs.ReadSchedules.{plan_of}
use Rattle.vehicle_model.proofs.Driven.{reads_driven}
use Rattle.vehicle_flow.specs.RightSchedules.{ScheduleIsRight}
use Rattle.vehicle_flow.specs.RightVehicles.{VehiclesAreRight}
use Rattle.vehicle_flow.specs.VehicleStage.{takes_trips, trips_in}
use Rattle.vehicle_flow.proofs.VehicleLaws.{are_trips}
use Rattle.stage_chain.specs.declared.cause.Cause.TheVariants as cause
use Rattle.stage_chain.specs.Chain.{bundle_by}
use Rattle.stage_chain.specs.Checks.{standing}
use Rattle.stage_chain.specs.Right.{found_file, text_in}
use Rattle.stage_chain.proofs.MadeRight.{given_fits}
use Rattle.stage_chain.proofs.Visits.{bundle_stage}
use Rattle.planning_stages.specs.Models.{DispositionPasses}
use Rattle.stage_driver.specs.BestPlans.{ConceptIsCheapest, DispositionIsEarliest, ScheduleIsCheapest}
use Rattle.stage_driver.specs.FeasiblePlans.{ConceptIsFeasible, ScheduleIsFeasible, TimetableIsFeasible}
use Rattle.stage_driver.specs.PlansThere.{is_there}

-- ---- files that are found

-- the text of the first of some files, and of the second one
first_of : List MadeFile → Option (List ℕ)
first_of [] = None
first_of (one ∷ more) = Some one.text

second_of : List MadeFile → Option (List ℕ)
second_of [] = None
second_of (one ∷ more) = first_of more

-- one of two files that may be found
abbrev found_two : FileId → FileId → Option (List ℕ) → Option (List ℕ) → List MadeFile
found_two one two text other =
    found_file one (ok_or text (cause.Missing one)) (found_file two (ok_or other (cause.Missing two)) [])

-- a file that is there where its text is
abbrev that_one : FileId → Option (List ℕ) → List MadeFile
that_one file None = []
that_one file (Some text) = record { file = file; text = text } ∷ []

-- two files are found as they are: the first one is there, and the second one where it is
two_found : (one two : FileId) → (two ≡ one → ⊥) → (found other : Option (List ℕ)) (text : List ℕ)
    (more : Option (List ℕ))
    → found_two one two found other ≡ record { file = one; text = text } ∷ that_one two more
    → (found ≡ Some text) × (other ≡ more)
unfolding first_of second_of
two_found one two differ (Some a) (Some b) text (Some c) is = (ap first_of is, ap second_of is)
two_found one two differ (Some a) None text None is = (ap first_of is, refl)
two_found one two differ (Some a) (Some b) text None is = absurd (omega (arith, ap length is))
two_found one two differ (Some a) None text (Some c) is = absurd (omega (arith, ap length is))
two_found one two differ None (Some b) text None is = absurd (differ (let same = ap ids_of is in cc))
two_found one two differ None (Some b) text (Some c) is = absurd (omega (arith, ap length is))
two_found one two differ None None text more is = absurd (omega (arith, ap length is))

one_found : (one : FileId) (found : Option (List ℕ)) (text : List ℕ)
    → found_file one (ok_or found (cause.Missing one)) [] ≡ record { file = one; text = text } ∷ []
    → found ≡ Some text
unfolding first_of
one_found one (Some a) text is = ap first_of is
one_found one None text is = absurd (omega (arith, ap length is))

mark_is : (tree : Option (List ℕ)) → mark_files tree ≡ that_one file.Tree tree
mark_is None = refl
mark_is (Some text) = refl

potentials_are : (text : Option (List ℕ))
    → map (λ text. record { file = file.Potential; text = text }) (option_to_list text) ≡ that_one file.Potential text
potentials_are None = refl
potentials_are (Some text) = refl

-- what holds of a text that may be there holds of it where it is there
where_there : {T : Type 0} (text : Option (List ℕ)) (P : List ℕ → Type 0) → IfSome text P
    → is_some text ≡ true → ((text : List ℕ) → P text → T) → T
where_there None P holds there go = absurd (cc)
where_there (Some text) P holds there go = go text holds

-- ---- what stands in a folder

module _ (folder : Folder) (values : List ℤ) (settled : effective (look_in folder) ≡ Ok values) where
  -- what stands there of a file
  abbrev there : FileId → Option (List ℕ)
  there file = files.get folder (file_name file)

  -- a concept is feasible, and where a tree stands beside it none costs less
  pub record ConceptHolds : Type 0 where
    pub feasible : ConceptIsFeasible folder
    pub cheapest : is_there folder file.Tree ≡ true → ConceptIsCheapest folder

  pub concept_holds : (bundle : BundleParts) → bundle_by (text_in folder) values stage.Concept ≡ Ok bundle
      → problem_faults bundle ≡ [] → (text : List ℕ) (tree : Option (List ℕ))
      → standing folder stage.Concept ≡ record { file = file.Concept; text = text } ∷ mark_files tree
      → Passes (problem_of bundle) text tree → ConceptHolds
  concept_holds bundle given faultless text tree stands passes =
      let found = two_found file.Concept file.Tree (λ same. cc) (there file.Concept) (there file.Tree) text tree
      (stands ∙ ap (λ more. record { file = file.Concept; text = text } ∷ more) (mark_is tree)) in
      let own : ConceptIsFeasible folder = record {
        there = record {
          bundle = bundle;
          given = record { values = values; settled = settled; given = given };
          faultless = faultless;
          text = text;
          stands = found.0;
          frequencies = passes.frequencies;
          each = passes.feasible.each;
          reads = passes.reads;
        };
        feasible = passes.feasible;
      } in
      record {
        feasible = own;
        cheapest = λ there. where_there tree _ passes.marked (sym (ap is_some found.1) ∙ there)
            (λ text marks.
            record { own = own; cheapest = λ other feasible. omega (arith, ints, marks.cheapest other feasible) });
      }

  pub timetable_holds : (bundle : BundleParts)
      → bundle_by (text_in folder) values stage.Timetable ≡ Ok bundle → timetable_faults bundle ≡ []
      → (text : List ℕ) → standing folder stage.Timetable ≡ record { file = file.TimesP; text = text } ∷ []
      → KeepsRules (problem_in bundle) text → TimetableIsFeasible folder
  timetable_holds bundle given faultless text stands passes = record {
    there = record {
      bundle = bundle;
      given = record { values = values; settled = settled; given = given };
      faultless = faultless;
      text = text;
      stands = one_found file.TimesP (there file.TimesP) text stands;
      times = passes.times;
      each = passes.timetable.each;
      reads = passes.reads;
    };
    feasible = passes.timetable;
  }

  -- the trips that a text tells which is right, by the vehicles that drive them
  driven_there : (bundle : BundleParts) → bundle_by (text_in folder) values stage.Vehicles ≡ Ok bundle
      → (right : ScheduleIsRight bundle (standing folder stage.Vehicles))
      → ReadsWhatIsDriven (trips_in bundle) right.schedule
      (Ok (plan_of (trips_in bundle) right.schedule))
  driven_there bundle given right =
      let fits = given_fits (text_in folder) values stage.Vehicles bundle
      (effective_settings (look_in folder) values settled) given in
      let are = are_trips bundle (ap takes_trips (bundle_stage values stage.Vehicles _ bundle given)) fits
      right.inputs in
      reads_driven (trips_in bundle) are right.schedule (Ok (plan_of (trips_in bundle) right.schedule))
      (right.reads, refl)

  -- a schedule is one of the trips, and where potentials stand beside it none costs less
  pub record ScheduleHolds : Type 0 where
    pub feasible : ScheduleIsFeasible folder
    pub cheapest : is_there folder file.Potential ≡ true → ScheduleIsCheapest folder

  pub schedule_holds : (bundle : BundleParts) → bundle_by (text_in folder) values stage.Vehicles ≡ Ok bundle
      → ScheduleIsRight bundle (standing folder stage.Vehicles) → ScheduleHolds
  schedule_holds bundle given right =
      let found =
      two_found file.Schedule file.Potential (λ same. cc) (there file.Schedule) (there file.Potential)
      right.schedule right.potentials
      (right.each
      ∙ ap (λ more. record { file = file.Schedule; text = right.schedule } ∷ more)
      (potentials_are right.potentials)) in
      let driven = driven_there bundle given right in
      let own : ScheduleIsFeasible folder = record {
        there = record {
          bundle = bundle;
          given = record { values = values; settled = settled; given = given };
          faultless = right.inputs;
          text = right.schedule;
          stands = found.0;
          vehicles = driven.0;
          reads = driven.1;
          follows = driven.2;
          plan = driven.3;
        };
        feasible = right.possible;
      } in
      record {
        feasible = own;
        cheapest = λ there. where_there right.potentials _ right.marked (sym (ap is_some found.1) ∙ there)
            (λ text mark. record { own = own; cheapest = mark.cheapest.least });
      }

  pub disposition_holds : (bundle : BundleParts)
      → bundle_by (text_in folder) values stage.Disposition ≡ Ok bundle
      → DispositionPasses bundle (standing folder stage.Disposition) → DispositionIsEarliest folder
  disposition_holds bundle given passes = record {
    there = record {
      bundle = bundle;
      given = record { values = values; settled = settled; given = given };
      faultless = passes.inputs;
      text = passes.times;
      stands =
          (two_found file.Disposed file.Reasons (λ same. cc) (there file.Disposed) (there file.Reasons) passes.times
          (Some passes.reasons) passes.both).0;
      times = passes.passes.times;
      each = passes.passes.disposition.least.feasible.each;
      reads = passes.passes.times_read;
    };
    earliest = passes.passes.disposition;
  }

  -- where its own model wants potentials, they stand beside it
  pub potentials_there : (bundle : BundleParts) → VehiclesAreRight bundle (standing folder stage.Vehicles)
      → is_there folder file.Potential ≡ true
  potentials_there bundle right = grind (arith, is_some, two_found)
