-- What it means that a check passes.
use Rattle.std.specs.Prelude.{ℤ, ◌≡◌, true, List, [], ◌∷◌, None, Ok, ⊤}
use Rattle.plan_files.specs.Folder.{Folder}
use Rattle.giv_files.specs.declared.stage.Stage.{Stage}
use Rattle.giv_files.specs.Settings.{BundleParts}
use Rattle.config_keys.specs.Items.{look_in}
use Rattle.config_keys.specs.Values.{effective}
use Rattle.command_line.specs.declared.mode.Mode.{Mode}
use Rattle.command_line.specs.declared.ends.RunEnd.TheVariants as end
use Rattle.stage_chain.specs.Chain.{bundle_by, is_to_run}
use Rattle.stage_chain.specs.Checks.{check_of, standing}
use Rattle.stage_chain.specs.Right.{text_in}
use Rattle.stage_chain.specs.Runs.{Trusts, after, run_over, started}
use Rattle.stage_chain.specs.StageParts.{StageParts}

module _ (S : StageParts) where
  -- The files of a stage that stand in a folder satisfy its model over the files that stand there.
  pub record StageStands (folder : Folder) (values : List ℤ) (stage : Stage) : Type 0 where
    pub bundle : BundleParts
    pub given : bundle_by (text_in folder) values stage ≡ Ok bundle
    pub model : S.Satisfies values bundle (standing folder stage)

  -- each of some stages does that is to run
  abbrev pub RunsStand : Folder → List ℤ → Stage → Type 0
  RunsStand folder values stage = is_to_run values stage ≡ true → StageStands folder values stage

  abbrev pub AllStand : Folder → List ℤ → List Stage → Type 0
  AllStand folder values [] = ⊤
  AllStand folder values (stage ∷ stages) =
      RunsStand folder values stage × AllStand folder values stages

  -- The settings of a folder are not refused, and each stage that is built and is to run has files
  -- there which satisfy its model.
  pub record PassesIn (folder : Folder) : Type 0 where
    pub values : List ℤ
    pub settled : effective (look_in folder) ≡ Ok values
    pub stand : AllStand folder values S.places

  -- The folder passes that a run leaves which made all of its stages: one over an honest keep, and a
  -- fresh one over any.
  unfoldable pub RunsPass : Mode → Folder → Type 0
  RunsPass by folder = Trusts S by folder → (run_over S (started by folder)).end ≡ end.Done
      → check_of S (after S (started by folder)) ≡ None
