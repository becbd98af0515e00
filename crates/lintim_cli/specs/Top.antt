-- What the top call answers and leaves.
use Rattle.std.specs.Prelude.{ℕ, ◌≡◌, ◌≤◌, ◌⊎◌, ◌+◌, List}
use Rattle.std.specs.Prelude.{◌++◌, Option}
use Rattle.std.specs.Prelude.{IfSome, take, ⊤}
use Rattle.std.specs.Option.{option_map}
use Rattle.plan_files.specs.Counts.{Raised, Rose}
use Rattle.plan_files.specs.Folder.{Folder}
use Rattle.std.specs.FinMap as folders
use Rattle.stage_chain.specs.declared.outcome.ChainFault.TheVariants as faults
use Rattle.command_line.specs.declared.mode.Mode.{Mode}
use Rattle.demo_dataset.specs.Demo.{demo_folder}
use Rattle.stage_chain.specs.Built.{RunParts}
use Rattle.stage_chain.specs.Checks.{check_end, check_report}
use Rattle.stage_chain.specs.Hand.{hand_of}
use Rattle.stage_chain.specs.RunSays.{SeenFiles}
use Rattle.stage_chain.specs.Runs.{started, with_files}
use Rattle.stage_chain.specs.States.{states_end}
use Rattle.stage_driver.specs.BestPlans.{PlansAreBest}
use Rattle.stage_driver.specs.FeasiblePlans.{PlansAreFeasible}
use Rattle.stage_driver.specs.PlansThere.{each_stage}
use Rattle.stage_driver.specs.PlanningChain.{Finished, IsLeftRight, IsUnfinished, check_of, made}
use Rattle.stage_driver.specs.PlanningChain.{made_part, run_over, states_of}
use Rattle.command_line.specs.declared.status.Status.{Status}
use Rattle.command_line.specs.declared.status.Status.TheVariants.{Done, FileFault, SinkFault, NoMemory}
use Rattle.plan_queries.specs.declared.answer.Answer.{Answer}
use Rattle.command_line.specs.declared.form.Form.{Form}
use Rattle.plan_queries.specs.Queries.{AnswersIn, IsRightIn, steps_of}
use Rattle.command_line.specs.Statuses.{status_of, status_of_query}
use Rattle.lintim_cli.specs.Answers.{status_of_check, status_of_states}
use Rattle.command_line.specs.Reports.{Whole, Broken, fault_report}

-- What an observer sees: of files and steps what an observer of a run sees; the bytes that are out, where
-- they are told, and the count of the faults of the sink.
pub record Seen : Type 0 where
  pub files : SeenFiles
  pub out : Option (List ℕ)
  pub sink_faults : ℕ

abbrev pub seen : SeenFiles → Option (List ℕ) → ℕ → Seen
seen files out sink_faults = record { files = files; out = out; sink_faults = sink_faults }

-- the report of a run, or a front part of it, is out
abbrev pub AllOut : Mode → Folder → Option (List ℕ) → Option (List ℕ) → Type 0
AllOut by read old new = new ≡ option_map (λ bytes. bytes ++ (run_over (started by read)).report) old

abbrev pub PartOut : Mode → Folder → Option (List ℕ) → Option (List ℕ) → Type 0
PartOut by read old new =
    (kept : ℕ) × (new ≡ option_map (λ bytes. bytes ++ take kept (run_over (started by read)).report) old)

-- What is told and left after a run over a folder, by its answer. Without a fault the answer, the
-- report, the folder, the writes and the steps are those of the chain over what is kept. After a
-- fault of the sink only a front part of the report is out. After a fault of a file not all writes
-- were made. Where memory was refused, either not all writes were made, or all of them: a write is
-- in part only where the count of file faults rose.
abbrev pub Leaves : Mode → Folder → Seen → Seen → Status → Type 0
Leaves by read before after SinkFault = PartOut by read before.out after.out × Finished by before.files after.files read
Leaves by read before after FileFault =
    IsUnfinished by faults.FileFault read after.files.contents before.files.writes after.files.writes
Leaves by read before after NoMemory =
    IsUnfinished by faults.NoMemory read after.files.contents before.files.writes after.files.writes
    ⊎ (Rose before.files.faults after.files.faults
    × IsUnfinished by faults.FileFault read after.files.contents before.files.writes after.files.writes)
    ⊎ Finished by before.files after.files read
Leaves by read before after result =
    (result ≡ status_of (run_over (started by read)).end) × AllOut by read before.out after.out
    × Finished by before.files after.files read

-- A run leaves the made files, the report and the answer which the hand files alone determine: those of
-- a run from scratch. In the folder that is left each stage that was made has its files, which,
-- read again, satisfy its model over the files there from which they were made. The plans there are
-- feasible. A concept with a tree beside it, and a vehicle schedule with potentials beside it, cost no
-- more than any feasible one; no event of a disposition can be earlier; and where no schedule is
-- pinned, the one there has potentials.
pub record AsFromScratch (read : Folder) (left : Option Folder) (old new : Option (List ℕ)) (result : Status)
    : Type 0 where
  pub files : IfSome left (λ folder. made_part folder ≡ with_files (made (hand_of read)).files folders.empty)
  pub report : new ≡ option_map (λ bytes. bytes ++ (made (hand_of read)).report) old
  pub answer : result ≡ status_of (made (hand_of read)).end
  pub right : IsLeftRight read left
  pub feasible : IfSome left (PlansAreFeasible each_stage)
  pub best : IfSome left (PlansAreBest each_stage)

-- that is so after each answer that is no fault
abbrev pub Headline : Folder → Option Folder → Option (List ℕ) → Option (List ℕ) → Status → Type 0
Headline read left old new SinkFault = ⊤
Headline read left old new FileFault = ⊤
Headline read left old new NoMemory = ⊤
Headline read left old new result = AsFromScratch read left old new result

-- done, unless memory was refused or a count of faults rose
abbrev pub IsDone : Seen → Seen → Status → Type 0
IsDone before after result = (result ≡ Done) ⊎ (result ≡ NoMemory)
    ⊎ Rose before.files.faults after.files.faults ⊎ Rose before.sink_faults after.sink_faults

-- After a fault of the files their count rose, and the report of it is out, whole or, where the
-- sink failed too, a front part.
pub record FileBroke (before now : ℕ) (old new : Option (List ℕ)) (out_before out_now : ℕ) : Type 0 where
  pub raised : Raised before now
  pub told : Whole fault_report old new out_before out_now ⊎ Broken fault_report old new out_before out_now

-- the report of a check, or a front part of it, is out
abbrev pub CheckOut : Folder → Option (List ℕ) → Option (List ℕ) → Type 0
CheckOut folder old new = new ≡ option_map (λ bytes. bytes ++ check_report (check_of folder)) old

abbrev pub CheckPartOut : Folder → Option (List ℕ) → Option (List ℕ) → Type 0
CheckPartOut folder old new =
    (kept : ℕ) × (new ≡ option_map (λ bytes. bytes ++ take kept (check_report (check_of folder))) old)

-- What a check of a folder tells, by its answer. Without a fault answer and report are those of what
-- it finds there; after a fault of the sink only a front part of the report is out.
abbrev pub CheckTells : Folder → Option (List ℕ) → Option (List ℕ) → Status → Type 0
CheckTells folder old new SinkFault = CheckPartOut folder old new
CheckTells folder old new FileFault = ⊤
CheckTells folder old new NoMemory = ⊤
CheckTells folder old new result =
    (result ≡ status_of_check (check_end (check_of folder))) × CheckOut folder old new

-- no file has changed, and no step was taken
pub record ChangesNothing (before after : SeenFiles) : Type 0 where
  pub files : after.contents ≡ before.contents
  pub writes : after.writes ≡ before.writes
  pub steps : after.steps ≡ before.steps

-- the report of the states of stages, or a front part of it, is out
abbrev pub StatesOut : Folder → Option (List ℕ) → Option (List ℕ) → Type 0
StatesOut folder old new = new ≡ option_map (λ bytes. bytes ++ states_of folder) old

abbrev pub StatesPartOut : Folder → Option (List ℕ) → Option (List ℕ) → Type 0
StatesPartOut folder old new =
    (kept : ℕ) × (new ≡ option_map (λ bytes. bytes ++ take kept (states_of folder)) old)

-- What is told of the states of a folder's stages, by the answer. Without a fault answer and report are
-- those of what is kept there; after a fault of the sink only a front part of the report is out.
abbrev pub StatusTells : Folder → Option (List ℕ) → Option (List ℕ) → Status → Type 0
StatusTells folder old new SinkFault = StatesPartOut folder old new
StatusTells folder old new FileFault = ⊤
StatusTells folder old new NoMemory = ⊤
StatusTells folder old new result =
    (result ≡ status_of_states (states_end folder)) × StatesOut folder old new

-- what the stages make of the demo dataset of a number
abbrev pub demo_run : ℕ → RunParts
demo_run number = made (hand_of (demo_folder number))

-- What a demo tells, by its answer: report, answer and steps are those of the stages from scratch over
-- the demo dataset. After a fault of the sink only a front part of the report is out. Where memory was
-- refused, the count of steps rose by at most the work.
abbrev pub DemoTells : ℕ → Option (List ℕ) → Option (List ℕ) → ℕ → ℕ → Status → Type 0
DemoTells number old new before now SinkFault =
    ((kept : ℕ) × (new ≡ option_map (λ bytes. bytes ++ take kept (demo_run number).report) old))
    × (now ≡ before + (demo_run number).work)
DemoTells number old new before now FileFault = ⊥
DemoTells number old new before now NoMemory = now ≤ before + (demo_run number).work
DemoTells number old new before now result =
    (result ≡ status_of (demo_run number).end) × (new ≡ option_map (λ bytes. bytes ++ (demo_run number).report) old)
    × (now ≡ before + (demo_run number).work)

-- What is told of a question over a folder, by the answer: without a fault the report is all of an answer
-- of it. After a fault of the sink only a front part is out. The count of steps rises by what the question
-- takes; by at most that where memory was refused, and not at all where a file could not be read.
abbrev pub FormTells : Form → Folder → Option (List ℕ) → Option (List ℕ) → ℕ → ℕ → Status → Type 0
FormTells form folder old new before now SinkFault =
    (answer : Answer) × AnswersIn form folder answer
    × ((kept : ℕ) × (new ≡ option_map (λ bytes. bytes ++ take kept answer.report) old))
    × (now ≡ before + steps_of form folder)
FormTells form folder old new before now FileFault = now ≡ before
FormTells form folder old new before now NoMemory = now ≤ before + steps_of form folder
FormTells form folder old new before now result =
    (answer : Answer) × AnswersIn form folder answer × (result ≡ status_of_query answer.end)
    × (new ≡ option_map (λ bytes. bytes ++ answer.report) old) × (now ≡ before + steps_of form folder)

-- What an answered question proves: of waiting decisions, that a marked one costs no more than any other;
-- of one that was saved, the same where it has a tree; of a journey, that none arrives earlier; of a pool,
-- that it is accepted and each line is a shortest walk between terminals.
abbrev pub FormProves : Form → Folder → Option (List ℕ) → Option (List ℕ) → Status → Type 0
FormProves form folder old new Done = (report : List ℕ)
    × (new ≡ option_map (λ bytes. bytes ++ report) old) × IsRightIn form folder report
FormProves form folder old new _ = ⊤
