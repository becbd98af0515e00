-- What is told of each stage by what a folder keeps of it. In what a stage is given each made file is the
-- one that is kept.
use Rattle.std.specs.Prelude.{ℕ, ℤ, ◌≡◌, if◌then◌else◌, Bool, false, List, [], ◌∷◌, ◌++◌, codes}
use Rattle.std.specs.Prelude.{Option, Some, None, Result, Ok, Err, IfOk}
use Rattle.std.specs.List.{list_all, list_any}
use Rattle.std.specs.FinMap as files
use Rattle.plan_files.specs.Folder.{Folder}
use Rattle.tables.specs.declared.file_id.FileId.{FileId}
use Rattle.giv_files.specs.declared.made.Made.{Made}
use Rattle.giv_files.specs.declared.made.MadeFile.{MadeFile}
use Rattle.giv_files.specs.declared.stage.Stage.{Stage}
use Rattle.tables.specs.FileNames.{file_name}
use Rattle.giv_files.specs.Settings.{BundleParts}
use Rattle.giv_files.specs.Stages.{stage_inputs, stage_makes, stage_name}
use Rattle.config_keys.specs.declared.config_end.ConfigEnd.{ConfigEnd}
use Rattle.config_keys.specs.declared.config_end.ConfigEnd.TheVariants as config
use Rattle.config_keys.specs.declared.config_fault.ConfigFault.{ConfigFault}
use Rattle.config_keys.specs.Items.{look_in}
use Rattle.config_keys.specs.Values.{effective}
use Rattle.stage_chain.specs.declared.cause.Cause.{Cause}
use Rattle.stage_chain.specs.declared.cause.Cause.TheVariants as cause
use Rattle.stage_chain.specs.declared.holding.Holding.{Holding}
use Rattle.stage_chain.specs.declared.holding.Holding.TheVariants as holding
use Rattle.stage_chain.specs.declared.outcome.ChainFault.{ChainFault}
use Rattle.stage_chain.specs.declared.outcome.ChainFault.TheVariants as fault
use Rattle.stage_chain.specs.declared.state.StageState.{StageState}
use Rattle.stage_chain.specs.declared.state.StageState.TheVariants as state
use Rattle.stage_chain.specs.declared.state.StatesEnd.{StatesEnd}
use Rattle.stage_chain.specs.declared.state.StatesEnd.TheVariants as end
use Rattle.stage_chain.specs.declared.state.StatesOutcome.{StatesOutcome}
use Rattle.stage_chain.specs.Chain.{bundle_by, chosen, input_text, is_file, is_to_run}
use Rattle.stage_chain.specs.Ends.{has_failed}
use Rattle.stage_chain.specs.Kept.{kept_in}
use Rattle.stage_chain.specs.Reports.{cause_text, line_of}
use Rattle.stage_chain.specs.Runs.{same_bytes}
use Rattle.stage_chain.specs.StageParts.{StageParts}

-- ---- what is kept of a stage

-- what is known of the stages before one: the files that are kept of them, and the files of those
-- that are stale or unknown
pub record KnownFiles : Type 0 where
  pub kept : List MadeFile
  pub lost : List FileId

-- before the first stage
abbrev pub nothing_known : KnownFiles
nothing_known = record { kept = []; lost = [] }

-- a file is among others
abbrev pub is_one_of : List FileId → FileId → Bool
is_one_of others file = list_any (is_file file) others

-- an input of a stage is a file of a stage that is stale or unknown
abbrev pub lacks_input : List ℤ → List FileId → Stage → Bool
lacks_input values lost stage =
    list_any (λ file. is_one_of lost (chosen values file)) (stage_inputs stage)

-- what is kept of what a stage is given, where it has all its inputs
abbrev pub kept_of : Folder → Result BundleParts Cause → Option Made
kept_of folder (Err why) = None
kept_of folder (Ok bundle) = kept_in folder bundle

-- the same: an entry is held or not
abbrev pub held : Option Made → Holding
held None = holding.Stale
held (Some made) = holding.Held made

-- what is held of a stage, where so much is known of those before it
unfoldable pub holding_at : Folder → List ℤ → KnownFiles → Stage → Holding
holding_at folder values known stage =
    if is_to_run values stage then
    (if lacks_input values known.lost stage then holding.Unknown
    else held (kept_of folder (bundle_by (input_text folder known.kept) values stage)))
    else holding.Off

-- what is known with one stage more
abbrev pub known_with : KnownFiles → Stage → Holding → KnownFiles
known_with known stage holding.Off = known
known_with known stage holding.Unknown =
    record { kept = known.kept; lost = known.lost ++ stage_makes stage }
known_with known stage holding.Stale =
    record { kept = known.kept; lost = known.lost ++ stage_makes stage }
known_with known stage (holding.Held made) =
    record { kept = known.kept ++ made.files; lost = known.lost }

-- ---- its state

-- the text of a file among those that were made
abbrev pub text_among : List MadeFile → FileId → Option (List ℕ)
text_among [] file = None
text_among (made ∷ more) file = if is_file made.file file then Some made.text else text_among more file

-- a file stands in a folder as it was made: with the same bytes, or not at all where it was not made
abbrev pub stands_as : Folder → List MadeFile → FileId → Bool
stands_as folder made file = same_bytes (files.get folder (file_name file)) (text_among made file)

-- the state of a stage by what is held of it
abbrev pub state_by : Folder → Stage → Holding → StageState
state_by folder stage holding.Off = state.Off
state_by folder stage holding.Unknown = state.Unknown
state_by folder stage holding.Stale = state.Stale
state_by folder stage (holding.Held made) =
    if list_all (stands_as folder made.files) (stage_makes stage) then state.Kept else state.Edited

-- the words for the states
abbrev pub state_name : StageState → List ℕ
state_name state.Off = codes "off"
state_name state.Unknown = codes "unknown"
state_name state.Stale = codes "stale"
state_name state.Edited = codes "edited"
state_name state.Kept = codes "kept"

-- ---- the report

-- the line of a stage
abbrev pub state_line : Stage → StageState → List ℕ
state_line stage state = line_of (stage_name stage ++ codes ": " ++ state_name state)

module _ (S : StageParts) where
  -- what is held of the stage that runs in a place, where so much is known of those before it
  abbrev pub holding_in : Folder → List ℤ → KnownFiles → Stage → Holding
  holding_in folder values known place = holding_at folder values known (S.placed values place)

  -- a line for each of some places, where so much is known of those before them
  abbrev pub state_lines : Folder → List ℤ → KnownFiles → List Stage → List ℕ
  state_lines folder values known [] = []
  state_lines folder values known (place ∷ places) =
      state_line place (state_by folder place (holding_in folder values known place))
      ++ state_lines folder values (known_with known place (holding_in folder values known place)) places

  -- the same under settings; where they are refused, the line that says why
  abbrev pub states_under : Result (List ℤ) ConfigFault → Folder → List ℕ
  states_under (Err reason) folder = line_of (cause_text (cause.BadConfig reason))
  states_under (Ok values) folder = state_lines folder values nothing_known S.places

abbrev pub states_end_under : Result (List ℤ) ConfigFault → StatesEnd
states_end_under (Err reason) = end.BadInput
states_end_under (Ok values) = end.Told

module _ (S : StageParts) where
  -- the states of the stages of a folder, and how telling them ends
  unfoldable pub states_of : Folder → List ℕ
  states_of folder = states_under S (effective (look_in folder)) folder

unfoldable pub states_end : Folder → StatesEnd
states_end folder = states_end_under (effective (look_in folder))

module _ (S : StageParts) where
  -- the outcome tells the states of the stages of a folder
  pub record TellsStates (folder : Folder) (outcome : StatesOutcome) : Type 0 where
    pub end : outcome.end ≡ states_end folder
    pub report : outcome.report ≡ states_of S folder

-- what is told where settings could not be read; other ends are handed on
abbrev pub UntoldAs : ConfigEnd → Result StatesOutcome ChainFault → Type 0
UntoldAs (config.Refused reason) result =
    (has_failed result ≡ false)
    × IfOk result
    (λ outcome. (outcome.end ≡ end.BadInput) × (outcome.report ≡ line_of (cause_text (cause.BadConfig reason))))
UntoldAs config.FileFault result = result ≡ Err fault.FileFault
UntoldAs config.NoMemory result = result ≡ Err fault.NoMemory
