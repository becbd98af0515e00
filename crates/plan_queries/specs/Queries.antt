-- What is told of questions about a folder.
use Rattle.std.specs.Prelude.{ℕ, ℤ, ◌≡◌, ◌≤◌, ◌+◌, Bool, true, false, List, [], ◌∷◌, ◌++◌, codes, decimal}
use Rattle.std.specs.Prelude.{Option, Some, None, IfOk, Result, Ok, Err, ⊤}
use Rattle.plan_files.specs.declared.store.Got.{Got}
use Rattle.plan_files.specs.declared.store.Got.TheVariants.{Bytes, Absent, TooLong as Long}
use Rattle.plan_files.specs.Folder.{Folder}
use Rattle.tables.specs.declared.file_id.FileId.TheVariants as file
use Rattle.tables.specs.declared.refusal.Refusal.{Refusal}
use Rattle.tables.specs.declared.refusal.Refusal.TheVariants as refusal
use Rattle.giv_files.specs.declared.stage.Stage.{Stage}
use Rattle.tables.specs.declared.refusal.StageFault.{StageFault}
use Rattle.tables.specs.declared.refusal.StageFault.TheVariants as fault
use Rattle.giv_files.specs.declared.stage.Stage.TheVariants as stage
use Rattle.giv_files.specs.Settings.{BundleParts}
use Rattle.config_keys.specs.Items.{look_in}
use Rattle.ptn_network.specs.Networks.{network_of}
use Rattle.delay_management.specs.DispositionStage.{disposition_faults, problem_in}
use Rattle.stage_chain.specs.declared.cause.Cause.{Cause}
use Rattle.stage_chain.specs.declared.cause.Cause.TheVariants as cause
use Rattle.stage_chain.specs.declared.chain_end.ChainEnd.{ChainEnd}
use Rattle.stage_chain.specs.declared.chain_end.ChainEnd.TheVariants as ended
use Rattle.stage_chain.specs.declared.outcome.ChainFault.{ChainFault}
use Rattle.stage_chain.specs.declared.outcome.ChainFault.TheVariants as chain_fault
use Rattle.stage_chain.specs.Reports.{cause_text, line_of, missing_text, too_long_text}
use Rattle.stage_chain.specs.Right.{text_in}
use Rattle.stage_chain.specs.StandingInputs.{standing_bundle}
use Rattle.wait_choice.specs.declared.rule.WaitRule.{WaitRule}
use Rattle.wait_choice.specs.declared.rule.WaitRule.TheVariants as rule
use Rattle.waiting_decisions.specs.declared.waits.Waits.{Waits}
use Rattle.wait_choice.specs.ChoiceStage.{waits_in, waits_refusals, waits_work}
use Rattle.wait_choice.specs.Judged.{KeepsBest, Passes, first_broken_rule}
use Rattle.waiting_decisions.specs.RightChoices.{IsRight}
use Rattle.wait_choice.specs.WaitTexts.{waits_text}
use Rattle.connections.specs.declared.found.Found.{Found}
use Rattle.connections.specs.Earliest.{IsAnswer}
use Rattle.connections.specs.Judged.{NoneEarlier}
use Rattle.journeys.specs.JourneyNets.{journey_faults, net_of}
use Rattle.journeys.specs.JourneyTexts.{journey_text}
use Rattle.pool_maker.specs.PoolTexts.{pool_text, terminal_faults}
use Rattle.pool_maker.specs.RightPools.{IsRightPool}
use Rattle.command_line.specs.declared.form.Form.{Form}
use Rattle.command_line.specs.declared.form.Form.TheVariants as form
use Rattle.plan_queries.specs.declared.answer.Answer.{Answer}
use Rattle.command_line.specs.declared.ends.QueryEnd.{QueryEnd}
use Rattle.command_line.specs.declared.ends.QueryEnd.TheVariants as end

-- what is told where a report is made
abbrev pub done : List ℕ → Answer
done report = record { end = end.Done; report = report }

-- the same, or why it is not made
abbrev pub told_of : Result Answer Cause → Answer
told_of (Ok answer) = answer
told_of (Err why) = record { end = end.BadInput; report = line_of (cause_text why) }

-- the first of some faults refuses what a stage is given
abbrev pub unless_refused : Stage → List Refusal → Answer → Result Answer Cause
unless_refused stage [] made = Ok made
unless_refused stage (first ∷ more) made = Err (cause.Refused stage first)

-- what the fault of a call over what a stage is given ends
abbrev pub end_of_fault : Stage → StageFault → ChainEnd
end_of_fault stage (fault.Refused refusal) = ended.Stopped (cause.Refused stage refusal)
end_of_fault stage fault.NoMemory = ended.NoMemory

-- what a part gives of which something holds; other ends are free
abbrev pub Tells : (Result Answer Cause → Type 0) → Result Answer ChainEnd → Type 0
Tells P (Ok answer) = P (Ok answer)
Tells P (Err (ended.Stopped why)) = P (Err why)
Tells P (Err ended.FileFault) = ⊤
Tells P (Err ended.NoMemory) = ⊤

-- the count of steps rises by what a question takes where it has an answer, or is refused; by at most that
-- where memory is; and not at all where a file could not be read
abbrev pub TakesUpTo : ℕ → ℕ → ℕ → Result Answer ChainEnd → Type 0
TakesUpTo work before now (Ok answer) = now ≡ before + work
TakesUpTo work before now (Err (ended.Stopped why)) = now ≡ before + work
TakesUpTo work before now (Err ended.FileFault) = now ≡ before
TakesUpTo work before now (Err ended.NoMemory) = now ≤ before + work

-- ---- waiting decisions

-- the line of a budget that was spent, and that of a decision which breaks a rule
abbrev pub spent_line : ℕ → List ℕ
spent_line entries = codes "spent: waits after " ++ decimal entries ++ codes " entries\n"

abbrev pub rule_word : WaitRule → List ℕ
rule_word rule.Row = codes "row"
rule_word rule.Shape = codes "shape"
rule_word rule.Cost = codes "cost"
rule_word rule.Tree = codes "tree"
rule_word rule.Leaf = codes "leaf"

abbrev pub broken_line : WaitRule → List ℕ
broken_line rule = codes "uncertified: waits: " ++ rule_word rule ++ 10 ∷ []

-- a spent budget is that of the waiting decision; anything else refuses what is given
abbrev pub refused_told : Refusal → Result Answer Cause
refused_told (refusal.Spent entries) =
    Ok (record { end = end.Spent; report = spent_line entries })
refused_told reason = Err (cause.Refused stage.Disposition reason)

-- the first of some faults, or the decision; where there is none, the budget is spent
abbrev pub waits_by : BundleParts → ℕ → List Refusal → Option Waits → Result Answer Cause
waits_by bundle budget (first ∷ more) chosen = refused_told first
waits_by bundle budget [] None = refused_told (refusal.Spent budget)
waits_by bundle budget [] (Some chosen) = Ok (done (waits_text (problem_in bundle) chosen))

-- a waiting decision at a penalty within a budget over what the stage of dispositions is given
abbrev pub waits_over : ℕ → ℕ → BundleParts → Result Answer Cause
waits_over penalty budget bundle =
    waits_by bundle budget (waits_refusals bundle penalty budget) (waits_in bundle penalty budget)

-- where that is there
abbrev pub waits_found : ℕ → ℕ → Result BundleParts Cause → Result Answer Cause
waits_found penalty budget (Err why) = Err why
waits_found penalty budget (Ok bundle) = waits_over penalty budget bundle

-- over a folder, and how many steps it takes
abbrev pub waits_told : ℕ → ℕ → Folder → Result Answer Cause
waits_told penalty budget folder =
    waits_found penalty budget (standing_bundle folder stage.Disposition)

abbrev pub steps_found : ℕ → ℕ → Result BundleParts Cause → ℕ
steps_found penalty budget (Err why) = 0
steps_found penalty budget (Ok bundle) = waits_work bundle penalty budget

abbrev pub waits_steps : ℕ → ℕ → Folder → ℕ
waits_steps penalty budget folder =
    steps_found penalty budget (standing_bundle folder stage.Disposition)

-- ---- a waiting decision that was saved

-- the file in which it is, which is read after the inputs
abbrev pub waits_name : List ℕ
waits_name = codes "waiting/Waits.cert"

-- it passes, or breaks a rule
abbrev pub verdict_told : Option WaitRule → Answer
verdict_told None = done (codes "checked\n")
verdict_told (Some rule) = record { end = end.Uncertified; report = broken_line rule }

-- what is told of its text at a penalty over what the stage of dispositions is given
abbrev pub judged_over : ℕ → BundleParts → List ℕ → Result Answer Cause
judged_over penalty bundle text =
    unless_refused stage.Disposition (disposition_faults bundle)
    (verdict_told (first_broken_rule (problem_in bundle) penalty text))

-- of what is found of its file
abbrev pub bad_input : List ℕ → Answer
bad_input text = record { end = end.BadInput; report = line_of text }

abbrev pub saved_over : ℕ → BundleParts → Got → Result Answer Cause
saved_over penalty bundle (Bytes text) = judged_over penalty bundle text
saved_over penalty bundle Absent = Ok (bad_input (missing_text waits_name))
saved_over penalty bundle Long = Ok (bad_input (too_long_text waits_name))

abbrev pub saved_found : ℕ → Got → Result BundleParts Cause → Result Answer Cause
saved_found penalty got (Err why) = Err why
saved_found penalty got (Ok bundle) = saved_over penalty bundle got

-- over a folder
abbrev pub check_told : ℕ → Folder → Result Answer Cause
check_told penalty folder =
    saved_found penalty (look_in folder waits_name) (standing_bundle folder stage.Disposition)

-- ---- journeys

module _ (from to start : ℤ) where
  -- a journey over the texts of a day, and its disposed times where they are given
  pub record TellsJourney (events activities : List ℕ) (times : Option (List ℕ))
      (told : Result Answer Cause) : Type 0 where
    pub refused : (first : Refusal) (more : List Refusal)
        → journey_faults events activities times ≡ first ∷ more
        → told ≡ Err (cause.Refused stage.Disposition first)
    pub found : journey_faults events activities times ≡ [] → (found : Found)
        × IsAnswer (net_of events activities times) from to start found
        × (told ≡ Ok (done (journey_text (net_of events activities times) found)))

  -- the same over what is found of these files
  abbrev pub JourneyOver : Result (List ℕ) Cause → Result (List ℕ) Cause
      → Result (Option (List ℕ)) Cause → Result Answer Cause → Type 0
  JourneyOver (Err why) activities times told = told ≡ Err why
  JourneyOver (Ok events) (Err why) times told = told ≡ Err why
  JourneyOver (Ok events) (Ok activities) (Err why) told = told ≡ Err why
  JourneyOver (Ok events) (Ok activities) (Ok times) told =
      TellsJourney events activities times told

-- a text that is there
abbrev pub some_text : Result (List ℕ) Cause → Result (Option (List ℕ)) Cause
some_text (Err why) = Err why
some_text (Ok text) = Ok (Some text)

-- the disposed times of a folder, where they are asked for
abbrev pub times_in : Bool → Folder → Result (Option (List ℕ)) Cause
times_in false folder = Ok None
times_in true folder = some_text (text_in folder file.Disposed)

-- a journey over a folder
abbrev pub JourneyTells : ℤ → ℤ → ℤ → Bool → Folder → Result Answer Cause → Type 0
JourneyTells from to start disposed folder =
    JourneyOver from to start (text_in folder file.EventsX) (text_in folder file.ActivitiesX)
    (times_in disposed folder)

-- ---- pools

-- a pool of terminals over the texts of stops and of edges
abbrev pub pool_over : List ℤ → Result (List ℕ) Cause → Result (List ℕ) Cause
    → Result Answer Cause
pool_over ids (Err why) edges = Err why
pool_over ids (Ok stops) (Err why) = Err why
pool_over ids (Ok stops) (Ok edges) =
    unless_refused stage.Load (terminal_faults stops edges ids)
    (done (pool_text (network_of stops edges) ids))

-- over a folder
abbrev pub pool_told : List ℤ → Folder → Result Answer Cause
pool_told ids folder = pool_over ids (text_in folder file.Stop) (text_in folder file.Edge)

-- ---- what an answer proves

-- A text is that of a waiting decision that was found; where it is marked, no set of changes costs less at
-- this penalty.
pub record WaitsAreRight (penalty : ℕ) (bundle : BundleParts) (text : List ℕ) : Type 0 where
  pub waits : Waits
  pub right : IsRight (problem_in bundle) penalty waits
  pub printed : text ≡ waits_text (problem_in bundle) waits

-- A waiting decision from any hand passes; where it has a tree, no set of changes costs less.
pub record SavedIsRight (penalty : ℕ) (bundle : BundleParts) (saved : List ℕ) : Type 0 where
  pub passes : Passes (problem_in bundle) penalty saved
  pub best : KeepsBest (problem_in bundle) penalty saved

-- A text is that of a journey, and no journey arrives earlier; or none exists.
pub record JourneyIsRight (from to start : ℤ) (events activities : List ℕ)
    (times : Option (List ℕ)) (text : List ℕ) : Type 0 where
  pub found : Found
  pub none_earlier : NoneEarlier (net_of events activities times) from to start found.journey
  pub printed : text ≡ journey_text (net_of events activities times) found

-- the same over what is found of the inputs
abbrev pub WaitsRightOver : ℕ → List ℕ → Result BundleParts Cause → Type 0
WaitsRightOver penalty text (Err why) = ⊥
WaitsRightOver penalty text (Ok bundle) = WaitsAreRight penalty bundle text

abbrev pub SavedRightOver : ℕ → Got → Result BundleParts Cause → Type 0
SavedRightOver penalty (Bytes saved) (Ok bundle) = SavedIsRight penalty bundle saved
SavedRightOver penalty _ _ = ⊥

abbrev pub JourneyRightOver : ℤ → ℤ → ℤ → List ℕ → Result (List ℕ) Cause → Result (List ℕ) Cause
    → Result (Option (List ℕ)) Cause → Type 0
JourneyRightOver from to start text (Ok events) (Ok activities) (Ok times) =
    JourneyIsRight from to start events activities times text
JourneyRightOver from to start text _ _ _ = ⊥

-- a pool is accepted over the network of its texts, each of its lines is a shortest walk between two
-- terminals, and it tells exactly the edges that no line has
abbrev pub PoolRightOver : List ℤ → List ℕ → Result (List ℕ) Cause → Result (List ℕ) Cause → Type 0
PoolRightOver ids text (Ok stops) (Ok edges) = IsRightPool (network_of stops edges) ids text
PoolRightOver ids text _ _ = ⊥

-- what the report of an answered question proves, over a folder
abbrev pub IsRightIn : Form → Folder → List ℕ → Type 0
IsRightIn (form.Waits penalty budget) folder text =
    WaitsRightOver penalty text (standing_bundle folder stage.Disposition)
IsRightIn (form.CheckWaits penalty) folder text =
    SavedRightOver penalty (look_in folder waits_name) (standing_bundle folder stage.Disposition)
IsRightIn (form.Journey from to start disposed) folder text =
    JourneyRightOver from to start text (text_in folder file.EventsX)
    (text_in folder file.ActivitiesX) (times_in disposed folder)
IsRightIn (form.Pool ids) folder text =
    PoolRightOver ids text (text_in folder file.Stop) (text_in folder file.Edge)

-- that is so where a question is answered; other ends are free
abbrev pub AnswersRight : (List ℕ → Type 0) → Result Answer ChainEnd → Type 0
AnswersRight P result = IfOk result (λ answer. answer.end ≡ end.Done → P answer.report)

-- how a question may end: only a waiting decision spends a budget, and only one that was saved breaks a rule
abbrev pub EndsAs : Form → QueryEnd → Type 0
EndsAs form end.Done = ⊤
EndsAs form end.BadInput = ⊤
EndsAs (form.Waits penalty budget) end.Spent = ⊤
EndsAs (form.CheckWaits penalty) end.Uncertified = ⊤
EndsAs form other = ⊥

-- ---- any question

-- what is told of a question, or why it has no answer
abbrev pub IsTold : Form → Folder → Result Answer Cause → Type 0
IsTold (form.Waits penalty budget) folder told = told ≡ waits_told penalty budget folder
IsTold (form.CheckWaits penalty) folder told = told ≡ check_told penalty folder
IsTold (form.Journey from to start disposed) folder told =
    JourneyTells from to start disposed folder told
IsTold (form.Pool ids) folder told = told ≡ pool_told ids folder

-- the answer of a question over a folder
abbrev pub AnswersIn : Form → Folder → Answer → Type 0
AnswersIn form folder answer =
    (told : Result Answer Cause) × IsTold form folder told × (answer ≡ told_of told)

-- the count of steps rises by what a question takes; by at most that where memory is refused; and not at
-- all where a file could not be read
abbrev pub TakesSteps : ℕ → ℕ → ℕ → Result Answer ChainFault → Type 0
TakesSteps work before now (Ok answer) = now ≡ before + work
TakesSteps work before now (Err chain_fault.FileFault) = now ≡ before
TakesSteps work before now (Err chain_fault.NoMemory) = now ≤ before + work

-- a question that takes no step: only the search for waiting decisions does
abbrev pub TakesNone : Form → Type 0
TakesNone (form.Waits penalty budget) = ⊥
TakesNone _ = ⊤

-- how many steps it takes
abbrev pub steps_of : Form → Folder → ℕ
steps_of (form.Waits penalty budget) folder = waits_steps penalty budget folder
steps_of _ folder = 0
