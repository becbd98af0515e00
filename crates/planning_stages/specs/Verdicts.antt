-- What a check of a folder finds: the files of each stage are judged over the files that stand there.
use Rattle.std.specs.Prelude.{ℕ, ◌&&◌, if◌then◌else◌, Bool, List, [], ◌∷◌, ◌==◌, length, zip}
use Rattle.std.specs.Prelude.{Option, Some, None, Result, Ok, Err}
use Rattle.std.specs.List.{list_all}
use Rattle.std.specs.Option.{option_map}
use Rattle.std.specs.Str.{bytes_eq}
use Rattle.giv_files.specs.declared.made.Made.{Made}
use Rattle.giv_files.specs.declared.made.MadeFile.{MadeFile}
use Rattle.tables.specs.declared.refusal.Refusal.{Refusal}
use Rattle.giv_files.specs.declared.stage.Stage.{Stage}
use Rattle.giv_files.specs.declared.stage.Stage.TheVariants as stage
use Rattle.giv_files.specs.Settings.{BundleParts}
use Rattle.line_search.specs.GivenProblems.{problem_faults, problem_of}
use Rattle.line_search.specs.Judged.{first_broken}
use Rattle.pesp_search.specs.Judged.{first_broken_rule}
use Rattle.pesp_search.specs.TimetableStage.{problem_in, timetable_faults}
use Rattle.vehicle_flow.specs.RightSchedules.{passed_over}
use Rattle.vehicle_flow.specs.ScheduleChecks.{schedule_fault}
use Rattle.vehicle_flow.specs.VehicleStage.{trips_in, vehicles_faults}
use Rattle.delay_management.specs.DispositionStage.{disposition_faults, kept_in, problem_in as delays_in}
use Rattle.delay_management.specs.Judged.{first_broken_rule as first_reason_rule}
use Rattle.stage_chain.specs.declared.cause.Cause.TheVariants as cause
use Rattle.stage_chain.specs.declared.finding.Finding.{Finding}
use Rattle.stage_chain.specs.declared.finding.Finding.TheVariants.{Broken}
use Rattle.stage_chain.specs.declared.rule.Rule.{Rule}
use Rattle.stage_chain.specs.declared.rule.Rule.TheVariants as rule
use Rattle.planning_stages.specs.Rules.{bare_rule, concept_rule, reason_rule, schedule_rule, timetable_rule}
use Rattle.stage_chain.specs.Findings.{finding_of}

-- files have the same texts as others
unfoldable pub same_texts : List MadeFile → List MadeFile → Bool
same_texts made others =
    (length made == length others) && list_all (λ at. bytes_eq at.0.text at.1.text) (zip made others)

-- what is found of files that are to be those that their stage makes
abbrev pub files_found : Stage → List MadeFile → List MadeFile → Option Finding
files_found stage made others =
    if same_texts made others then None else Some (Broken stage rule.Content)

-- the same by what the stage makes of its inputs, or why it refuses them
abbrev pub content_found : Stage → Result Made Refusal → List MadeFile → Option Finding
content_found stage (Err reason) others = Some (finding_of stage (cause.Refused stage reason))
content_found stage (Ok made) others = files_found stage made.files others

-- what is found of files from any hand over the inputs of their stage, by the faults of these and by the
-- first rule that the files break
abbrev pub judged_found : {Fault : Type 0} → Stage → (Fault → Rule) → List Refusal → Option Fault
    → Option Finding
judged_found stage rule_of [] broken = option_map (λ fault. Broken stage (rule_of fault)) broken
judged_found stage rule_of (first ∷ more) broken =
    Some (finding_of stage (cause.Refused stage first))

-- the text of the first of some files
abbrev pub first_text : List MadeFile → Option (List ℕ)
first_text [] = None
first_text (file ∷ files) = Some file.text

-- what is found of a concept, with the tree that may stand behind it
abbrev pub concept_verdict : BundleParts → List MadeFile → Option Finding
concept_verdict bundle [] = None
concept_verdict bundle (concept ∷ tree) =
    judged_found stage.Concept concept_rule (problem_faults bundle)
    (first_broken (problem_of bundle) concept.text (first_text tree))

-- what is found of a timetable
abbrev pub timetable_verdict : BundleParts → List MadeFile → Option Finding
timetable_verdict bundle [] = None
timetable_verdict bundle (times ∷ more) =
    judged_found stage.Timetable timetable_rule (timetable_faults bundle)
    (first_broken_rule (problem_in bundle) times.text)

-- what is found of a vehicle schedule, with the potentials that may stand behind it
abbrev pub schedule_verdict : BundleParts → List MadeFile → Option Finding
schedule_verdict bundle [] = None
schedule_verdict bundle (schedule ∷ potentials) =
    judged_found stage.Vehicles schedule_rule (vehicles_faults bundle)
    (schedule_fault (trips_in bundle) schedule.text (first_text potentials))

-- the same of one that needs no potentials
abbrev pub bare_verdict : BundleParts → List MadeFile → Option Finding
bare_verdict bundle [] = None
bare_verdict bundle (schedule ∷ potentials) =
    judged_found stage.Vehicles schedule_rule (vehicles_faults bundle)
    (passed_over (schedule_fault (trips_in bundle) schedule.text (first_text potentials)))

-- what is found of a disposition, with reasons beside it or without
abbrev pub reasons_found : BundleParts → List ℕ → List ℕ → Option Finding
reasons_found bundle times reasons =
    judged_found stage.Disposition reason_rule (disposition_faults bundle)
    (first_reason_rule (delays_in bundle) (kept_in bundle) times reasons)

abbrev pub bare_found : BundleParts → List ℕ → Option Finding
bare_found bundle times =
    judged_found stage.Disposition (λ rule. rule) (disposition_faults bundle)
    (Some (bare_rule (first_reason_rule (delays_in bundle) (kept_in bundle) times [])))

abbrev pub disposition_found : BundleParts → List ℕ → Option (List ℕ) → Option Finding
disposition_found bundle times (Some reasons) = reasons_found bundle times reasons
disposition_found bundle times None = bare_found bundle times

abbrev pub disposition_verdict : BundleParts → List MadeFile → Option Finding
disposition_verdict bundle [] = None
disposition_verdict bundle (times ∷ reasons) =
    disposition_found bundle times.text (first_text reasons)
