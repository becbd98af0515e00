-- A chain of stages over hand files: each stage takes hand files, and files that stages before it
-- made.
use Rattle.std.specs.Prelude.{ℕ, ℤ, pos, if◌then◌else◌, Bool, true, false, List, [], ◌∷◌, ◌++◌, map}
use Rattle.std.specs.Prelude.{filter, nat_le, Option, Some, None, Result, Ok, Err}
use Rattle.std.specs.Ordering.{int_eq}
use Rattle.std.specs.Str.{bytes_eq}
use Rattle.plan_files.specs.declared.store.Got.{Got}
use Rattle.plan_files.specs.declared.store.Got.TheVariants.{Bytes, Absent, TooLong as Long}
use Rattle.plan_files.specs.Folder.{Folder}
use Rattle.tables.specs.declared.file_id.FileId.{FileId}
use Rattle.tables.specs.declared.file_id.FileId.TheVariants as file
use Rattle.giv_files.specs.declared.key.Key.TheVariants as key
use Rattle.giv_files.specs.declared.made.Made.{Made}
use Rattle.giv_files.specs.declared.made.MadeFile.{MadeFile}
use Rattle.tables.specs.declared.refusal.Refusal.{Refusal}
use Rattle.giv_files.specs.declared.stage.Stage.{Stage}
use Rattle.tables.specs.FileNames.{file_name}
use Rattle.giv_files.specs.Settings.{BundleParts}
use Rattle.giv_files.specs.Stages.{stage_inputs, stage_row, stage_tag}
use Rattle.config_keys.specs.Config.{value_at, part_of, last_stage_of}
use Rattle.config_keys.specs.Items.{look_in}
use Rattle.stage_chain.specs.declared.origin.Origin.{Origin}
use Rattle.stage_chain.specs.declared.origin.Origin.TheVariants as origin
use Rattle.stage_chain.specs.declared.cause.Cause.{Cause}
use Rattle.stage_chain.specs.declared.cause.Cause.TheVariants as cause

-- where an input comes from
abbrev pub origin_of : FileId → Origin
origin_of file.Stop = origin.Needed
origin_of file.Edge = origin.Needed
origin_of file.LoadGiven = origin.Needed
origin_of file.Od = origin.Needed
origin_of file.Pool = origin.Needed
origin_of file.PinnedConcept = origin.Needed
origin_of file.PinnedTimes = origin.Needed
origin_of file.PinnedSchedule = origin.Needed
origin_of file.PinnedTree = origin.Optional
origin_of file.PinnedPotential = origin.Optional
origin_of file.EventDelays = origin.Optional
origin_of file.ActivityDelays = origin.Optional
origin_of file = origin.Earlier

-- the text of a hand file, which may be left out or not
abbrev pub hand_text : Bool → FileId → Got → Result (List ℕ) Cause
hand_text optional file (Bytes text) = Ok text
hand_text optional file Absent = if optional then Ok [] else Err (cause.Missing file)
hand_text optional file Long = Err (cause.TooLong file)

-- two files are one
abbrev pub is_file : FileId → FileId → Bool
is_file file other = bytes_eq (file_name file) (file_name other)

-- the text of a file that was made
abbrev pub made_text : List MadeFile → FileId → Result (List ℕ) Cause
made_text [] file = Err (cause.Missing file)
made_text (made ∷ more) file = if is_file made.file file then Ok made.text else made_text more file

-- the text of an input, or why there is none
abbrev pub text_from : Origin → Folder → List MadeFile → FileId → Result (List ℕ) Cause
text_from origin.Needed hand made file = hand_text false file (look_in hand (file_name file))
text_from origin.Optional hand made file = hand_text true file (look_in hand (file_name file))
text_from origin.Earlier hand made file = made_text made file

abbrev pub input_text : Folder → List MadeFile → FileId → Result (List ℕ) Cause
input_text hand made file = text_from (origin_of file) hand made file

-- one text more, or the first reason why one is not there
abbrev pub with_text : Result (List ℕ) Cause → Result (List (List ℕ)) Cause
    → Result (List (List ℕ)) Cause
with_text (Err why) texts = Err why
with_text (Ok text) (Err why) = Err why
with_text (Ok text) (Ok texts) = Ok (text ∷ texts)

-- the file that an input stands for: given loads stand in the place of the demand where loads are
-- given
abbrev pub chosen : List ℤ → FileId → FileId
chosen values file.Od =
    if int_eq (value_at values key.LoadSource) (pos 1) then file.LoadGiven else file.Od
chosen values other = other

-- the texts of some inputs under the settings of a dataset, by what is found of each file, or why
-- the first of them that is not there is not
abbrev pub texts_by : (FileId → Result (List ℕ) Cause) → List ℤ → List FileId
    → Result (List (List ℕ)) Cause
texts_by look values [] = Ok []
texts_by look values (file ∷ files) =
    with_text (look (chosen values file)) (texts_by look values files)

-- the same over hand files, and files that were made
abbrev pub texts_of : List ℤ → Folder → List MadeFile → List FileId → Result (List (List ℕ)) Cause
texts_of values hand made files = texts_by (input_text hand made) values files

-- a stage that was made: what it was given, and what it made of that
pub record Visit : Type 0 where
  pub bundle : BundleParts
  pub made : Made

-- where a chain ends early: why, and what the stage was given that ended it, where it had all its
-- inputs
pub record Halt : Type 0 where
  pub cause : Cause
  pub given : Option BundleParts

-- what a chain does: the stages that were made, in order, and where it ends early
pub record Trace : Type 0 where
  pub visits : List Visit
  pub halt : Option Halt

-- what a stage is given under the settings of a dataset
abbrev pub bundle_for : List ℤ → Stage → List (List ℕ) → BundleParts
bundle_for values stage texts =
    record { stage = stage; settings = part_of values stage; inputs = texts }

-- the same, where its texts are there
abbrev pub bundle_told : List ℤ → Stage → Result (List (List ℕ)) Cause → Result BundleParts Cause
bundle_told values stage (Err why) = Err why
bundle_told values stage (Ok texts) = Ok (bundle_for values stage texts)

-- what a stage is given by what is found of each file
abbrev pub bundle_by : (FileId → Result (List ℕ) Cause) → List ℤ → Stage → Result BundleParts Cause
bundle_by look values stage = bundle_told values stage (texts_by look values (stage_inputs stage))

-- a chain goes on behind a stage that was made
abbrev pub go_on : Result Visit Halt → (Visit → Trace) → Trace
go_on (Err halt) rest = record { visits = []; halt = Some halt }
go_on (Ok visit) rest = record { visits = visit ∷ (rest visit).visits; halt = (rest visit).halt }

module _ (solve : BundleParts → Result Made Refusal) (values : List ℤ) (hand : Folder) where
  -- a stage is made, or refuses what it is given
  abbrev pub solved : BundleParts → Result Made Refusal → Result Visit Halt
  solved bundle (Ok made) = Ok (record { bundle = bundle; made = made })
  solved bundle (Err refusal) =
      Err (record { cause = cause.Refused bundle.stage refusal; given = Some bundle })

  -- a stage that is given its inputs is solved; without them the chain ends
  abbrev pub tried : Result BundleParts Cause → Result Visit Halt
  tried (Err why) = Err (record { cause = why; given = None })
  tried (Ok bundle) = solved bundle (solve bundle)

  -- one stage, where so many files were made before it
  unfoldable pub visit_of : List MadeFile → Stage → Result Visit Halt
  visit_of made stage =
      tried (bundle_told values stage (texts_of values hand made (stage_inputs stage)))

  -- the stages of a list one after the other, where so many files were made before them
  abbrev pub chain_from : List MadeFile → List Stage → Trace
  chain_from made [] = record { visits = []; halt = None }
  chain_from made (stage ∷ stages) =
      go_on (visit_of made stage) (λ visit. chain_from (made ++ visit.made.files) stages)

-- the bundle that a stage was handed which ended the chain, where it had its inputs
abbrev pub handed_last : Option BundleParts → List BundleParts
handed_last None = []
handed_last (Some bundle) = bundle ∷ []

-- the bundle that one stage was handed, where it had its inputs
abbrev pub handed_once : Result Visit Halt → List BundleParts
handed_once (Ok visit) = visit.bundle ∷ []
handed_once (Err halt) = handed_last halt.given

abbrev pub handed_end : Option Halt → List BundleParts
handed_end None = []
handed_end (Some halt) = handed_last halt.given

-- the bundles that a chain handed to its stages
abbrev pub handed : Trace → List BundleParts
handed trace = map (λ visit. visit.bundle) trace.visits ++ handed_end trace.halt

-- the place of a stage in the order of places, which is that of the enum; a pinned stage runs in that of
-- the plain one
abbrev pub stage_place : Stage → ℕ
stage_place stage = stage_tag (stage_row stage).place

-- a stage is to run: it does not come after the last stage that the settings name
abbrev pub is_to_run : List ℤ → Stage → Bool
is_to_run values stage = nat_le (stage_place stage) (stage_place (last_stage_of values))

-- those of some stages that are to run
abbrev pub to_run : List ℤ → List Stage → List Stage
to_run values stages = filter (is_to_run values) stages
