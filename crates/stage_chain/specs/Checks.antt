-- What a check of a folder finds: the files of each stage are judged over the files that stand there.
use Rattle.std.specs.Prelude.{ℕ, ℤ, ◌≡◌, ◌&&◌, not, is_some, if◌then◌else◌, Bool, true, false}
use Rattle.std.specs.Prelude.{List, [], ◌∷◌, ◌++◌, codes, Option, Some, None, Result, Ok, Err}
use Rattle.std.specs.List.{list_any}
use Rattle.std.specs.Option.{option_or}
use Rattle.std.specs.FinMap as files
use Rattle.plan_files.specs.Folder.{Folder}
use Rattle.tables.specs.declared.file_id.FileId.{FileId}
use Rattle.tables.specs.declared.file_id.FileId.TheVariants as file
use Rattle.giv_files.specs.declared.made.MadeFile.{MadeFile}
use Rattle.giv_files.specs.declared.stage.Stage.{Stage}
use Rattle.tables.specs.FileNames.{file_name}
use Rattle.giv_files.specs.Settings.{BundleParts}
use Rattle.giv_files.specs.Stages.{stage_makes, stage_name}
use Rattle.config_keys.specs.declared.config_end.ConfigEnd.{ConfigEnd}
use Rattle.config_keys.specs.declared.config_end.ConfigEnd.TheVariants as config
use Rattle.config_keys.specs.declared.config_fault.ConfigFault.{ConfigFault}
use Rattle.config_keys.specs.Items.{look_in}
use Rattle.config_keys.specs.Values.{effective}
use Rattle.stage_chain.specs.declared.cause.Cause.{Cause}
use Rattle.stage_chain.specs.declared.cause.Cause.TheVariants as cause
use Rattle.stage_chain.specs.declared.chain_end.ChainEnd.{ChainEnd}
use Rattle.stage_chain.specs.declared.chain_end.ChainEnd.TheVariants as ended
use Rattle.stage_chain.specs.declared.checked.CheckEnd.{CheckEnd}
use Rattle.stage_chain.specs.declared.checked.CheckEnd.TheVariants as end
use Rattle.stage_chain.specs.declared.checked.CheckOutcome.{CheckOutcome}
use Rattle.stage_chain.specs.declared.finding.Finding.{Finding}
use Rattle.stage_chain.specs.declared.finding.Finding.TheVariants.{BadInput, Broken}
use Rattle.stage_chain.specs.declared.outcome.ChainFault.{ChainFault}
use Rattle.stage_chain.specs.declared.outcome.ChainFault.TheVariants as fault
use Rattle.stage_chain.specs.declared.rule.Rule.{Rule}
use Rattle.stage_chain.specs.declared.rule.Rule.TheVariants as rule
use Rattle.stage_chain.specs.Chain.{bundle_by, is_to_run}
use Rattle.stage_chain.specs.Findings.{finding_of, rule_name}
use Rattle.stage_chain.specs.Reports.{cause_text, line_of}
use Rattle.stage_chain.specs.Right.{files_by, made_in, text_in}
use Rattle.stage_chain.specs.StageParts.{StageParts}

-- a file is a certificate, which may be left out
abbrev pub is_certificate : FileId → Bool
is_certificate file.Tree = true
is_certificate file.Potential = true
is_certificate file.Reasons = true
is_certificate _ = false

-- the files of a stage that stand in a folder
abbrev pub standing : Folder → Stage → List MadeFile
standing folder stage = files_by (made_in folder) (stage_makes stage)

-- a file is lacking by what is found of it: it is no certificate, and nothing is
abbrev pub is_lacking : FileId → Option (List ℕ) → Bool
is_lacking file text = not (is_some text) && not (is_certificate file)

-- one of the files of a stage is lacking in a folder
abbrev pub lacks_file : Folder → Stage → Bool
lacks_file folder stage =
    list_any (λ file. is_lacking file (files.get folder (file_name file))) (stage_makes stage)

-- a file, where it is found
abbrev pub found_one : FileId → Option (List ℕ) → List MadeFile
found_one file None = []
found_one file (Some text) = record { file = file; text = text } ∷ []

module _ (S : StageParts) where
  -- what is found of a stage: first of its inputs, then of the files that it makes
  abbrev pub found_over : Folder → List ℤ → Stage → Result BundleParts Cause → Option Finding
  found_over folder values stage (Err why) = Some (finding_of stage why)
  found_over folder values stage (Ok bundle) =
      if lacks_file folder stage then Some (Broken stage rule.Missing)
      else S.verdict values bundle (standing folder stage)

-- what is found of a stage that was not given its inputs; other ends are handed on
abbrev pub EndedAs : Stage → ChainEnd → Result (Option Finding) ChainFault → Type 0
EndedAs stage (ended.Stopped why) result = result ≡ Ok (Some (finding_of stage why))
EndedAs stage ended.FileFault result = result ≡ Err fault.FileFault
EndedAs stage ended.NoMemory result = result ≡ Err fault.NoMemory

module _ (S : StageParts) where
  unfoldable pub judge : Folder → List ℤ → Stage → Option Finding
  judge folder values stage =
      found_over S folder values stage (bundle_by (text_in folder) values stage)

  -- the same of a stage that is to run; of one behind the last stage nothing is found
  abbrev pub found_at : Folder → List ℤ → Stage → Option Finding
  found_at folder values stage = if is_to_run values stage then judge folder values stage else None

  -- the first that is found of some stages
  abbrev pub first_found : Folder → List ℤ → List Stage → Option Finding
  first_found folder values [] = None
  first_found folder values (stage ∷ stages) =
      option_or (found_at folder values stage) (first_found folder values stages)

  -- the same under settings, or a fault of them
  abbrev pub found_under : Result (List ℤ) ConfigFault → Folder → Option Finding
  found_under (Err reason) folder = Some (BadInput (cause.BadConfig reason))
  found_under (Ok values) folder = first_found folder values S.places

-- what is found where settings could not be read; other ends are handed on
abbrev pub UnsettledAs : ConfigEnd → Result (Option Finding) ChainFault → Type 0
UnsettledAs (config.Refused reason) result = result ≡ Ok (Some (BadInput (cause.BadConfig reason)))
UnsettledAs config.FileFault result = result ≡ Err fault.FileFault
UnsettledAs config.NoMemory result = result ≡ Err fault.NoMemory

module _ (S : StageParts) where
  -- what a check of a folder finds, where it does not pass
  unfoldable pub check_of : Folder → Option Finding
  check_of folder = found_under S (effective (look_in folder)) folder

-- how a check ends, and its report
abbrev pub check_end : Option Finding → CheckEnd
check_end None = end.Passed
check_end (Some (BadInput why)) = end.BadInput
check_end (Some (Broken stage rule)) = end.Failed stage rule

abbrev pub broken_text : Stage → Rule → List ℕ
broken_text stage rule =
    codes "uncertified: " ++ stage_name stage ++ codes ": " ++ rule_name rule

unfoldable pub finding_text : Finding → List ℕ
finding_text (BadInput why) = cause_text why
finding_text (Broken stage rule) = broken_text stage rule

abbrev pub check_report : Option Finding → List ℕ
check_report None = line_of (codes "checked")
check_report (Some finding) = line_of (finding_text finding)

module _ (S : StageParts) where
  -- the outcome is what a check of a folder finds
  pub record IsCheck (folder : Folder) (outcome : CheckOutcome) : Type 0 where
    pub end : outcome.end ≡ check_end (check_of S folder)
    pub report : outcome.report ≡ check_report (check_of S folder)
