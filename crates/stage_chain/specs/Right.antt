-- What holds of what the stages of a chain make and refuse.
use Rattle.std.specs.Prelude.{ℕ, ℤ, ◌≡◌, true, false, List, [], ◌∷◌, Option, Some, None, Result, Ok}
use Rattle.std.specs.Prelude.{Err, IfSome, IfOk, Contains}
use Rattle.std.specs.Option.{ok_or}
use Rattle.std.specs.FinMap as files
use Rattle.plan_files.specs.Folder.{Folder}
use Rattle.tables.specs.declared.file_id.FileId.{FileId}
use Rattle.giv_files.specs.declared.made.MadeFile.{MadeFile}
use Rattle.tables.specs.FileNames.{file_name}
use Rattle.tables.specs.NamedFiles.{NamesOnly}
use Rattle.giv_files.specs.Settings.{BundleParts}
use Rattle.giv_files.specs.Stages.{stage_makes}
use Rattle.config_keys.specs.Items.{look_in}
use Rattle.config_keys.specs.NamedConfigs.{ConfigNames}
use Rattle.config_keys.specs.Values.{effective}
use Rattle.stage_chain.specs.declared.cause.Cause.{Cause}
use Rattle.stage_chain.specs.declared.cause.Cause.TheVariants as cause
use Rattle.stage_chain.specs.declared.origin.Origin.{Origin}
use Rattle.stage_chain.specs.declared.origin.Origin.TheVariants as origin
use Rattle.stage_chain.specs.Built.{cause_of, trace_of}
use Rattle.stage_chain.specs.Chain.{Visit, hand_text, origin_of, bundle_by}
use Rattle.stage_chain.specs.Hand.{is_hand, is_hand_file, hand_of}
use Rattle.stage_chain.specs.Kept.{IsKeptHonest}
use Rattle.stage_chain.specs.Runs.{after}
use Rattle.stage_chain.specs.StageParts.{StageParts, staged}

-- the text of a file that a stage makes, where it stands in a folder
abbrev pub made_in : Folder → FileId → Result (List ℕ) Cause
made_in folder file = ok_or (files.get folder (file_name file)) (cause.Missing file)

-- what is found of a file in a folder, by where it comes from
abbrev pub text_by : Origin → Folder → FileId → Result (List ℕ) Cause
text_by origin.Needed folder file = hand_text false file (look_in folder (file_name file))
text_by origin.Optional folder file = hand_text true file (look_in folder (file_name file))
text_by origin.Earlier folder file = made_in folder file

abbrev pub text_in : Folder → FileId → Result (List ℕ) Cause
text_in folder file = text_by (origin_of file) folder file

-- those of some files whose texts are found
abbrev pub found_file : FileId → Result (List ℕ) Cause → List MadeFile → List MadeFile
found_file file (Ok text) more = record { file = file; text = text } ∷ more
found_file file (Err why) more = more

abbrev pub files_by : (FileId → Result (List ℕ) Cause) → List FileId → List MadeFile
files_by look [] = []
files_by look (file ∷ files) = found_file file (look file) (files_by look files)

module _ (S : StageParts) where
  -- A stage is one of those that run under the settings; what it is given by what is found of each
  -- file, and those of its files that are found, are right.
  pub record StandsRight (look : FileId → Result (List ℕ) Cause) (values : List ℤ) (bundle : BundleParts)
      (made : List MadeFile) : Type 0 where
    pub runs : Contains (staged S values) bundle.stage
    pub given : bundle_by look values bundle.stage ≡ Ok bundle
    pub found : files_by look (stage_makes bundle.stage) ≡ made
    pub right : S.IsRight bundle.stage bundle made

  -- each of some stages does, with the files that it made
  abbrev pub AllStandRight : (FileId → Result (List ℕ) Cause) → List ℤ → List Visit → Type 0
  AllStandRight look values [] = Unit {0}
  AllStandRight look values (visit ∷ visits) =
      StandsRight look values visit.bundle visit.made.files × AllStandRight look values visits

  -- In a folder, under its settings, each of some stages does.
  abbrev pub StandRightIn : Folder → List Visit → Type 0
  StandRightIn folder visits =
      IfOk (effective (look_in folder)) (λ values. AllStandRight (text_in folder) values visits)

  -- In the folder that a run leaves which started from an honest keep, each stage that was made has the
  -- files that it makes from scratch, and they are right over the files there from which they were made.
  unfoldable pub MadeFilesAreRight : Folder → Type 0
  MadeFilesAreRight folder =
      IsKeptHonest S folder → StandRightIn (after S folder) (trace_of S (hand_of folder)).visits

  -- each of these stages is right in the folder that is left, where it is told
  abbrev pub IsLeftRight : Folder → Option Folder → Type 0
  IsLeftRight read left = IfSome left (λ folder. StandRightIn folder (trace_of S (hand_of read)).visits)

-- why a chain ends early names no file but those that people write
abbrev pub NamesHand : Option Cause → Type 0
NamesHand None = Unit {0}
NamesHand (Some (cause.BadConfig reason)) = ConfigNames is_hand reason
NamesHand (Some (cause.Missing file)) = is_hand_file file ≡ true
NamesHand (Some (cause.TooLong file)) = is_hand_file file ≡ true
NamesHand (Some (cause.Refused stage reason)) = NamesOnly is_hand_file reason

module _ (S : StageParts) where
  unfoldable pub RefusesHand : Folder → Type 0
  RefusesHand hand = NamesHand (cause_of (trace_of S hand).halt)
