-- What the states of stages tell of the next run.
use Rattle.std.specs.Prelude.{ℤ, ◌≡◌, not, is_some, true, List, [], ◌∷◌, Contains, Some, None, IfOk, ⊤}
use Rattle.std.specs.List.{list_all}
use Rattle.std.specs.FinMap as files
use Rattle.plan_files.specs.Folder.{Folder}
use Rattle.giv_files.specs.declared.stage.Stage.{Stage}
use Rattle.tables.specs.FileNames.{file_name}
use Rattle.giv_files.specs.Settings.{BundleParts}
use Rattle.giv_files.specs.Stages.{stage_makes}
use Rattle.config_keys.specs.Items.{look_in}
use Rattle.config_keys.specs.Values.{effective}
use Rattle.stage_chain.specs.declared.holding.Holding.{Holding}
use Rattle.stage_chain.specs.declared.holding.Holding.TheVariants as holding
use Rattle.command_line.specs.declared.ends.RunEnd.TheVariants as end
use Rattle.stage_chain.specs.declared.state.StageState.{StageState}
use Rattle.stage_chain.specs.declared.state.StageState.TheVariants as state
use Rattle.stage_chain.specs.Chain.{handed}
use Rattle.stage_chain.specs.Hand.{hand_of}
use Rattle.stage_chain.specs.Kept.{kept_in, trace_over}
use Rattle.stage_chain.specs.Runs.{run_over, writes_of}
use Rattle.stage_chain.specs.StageParts.{StageParts}
use Rattle.stage_chain.specs.States.{KnownFiles, holding_in, known_with, nothing_known, state_by}

-- What is held of a stage tells of what the next run hands to it: where it is held, that is taken from
-- what is kept; where it is stale, nothing is kept of it, so the stage is made; one that is off is
-- handed nothing.
abbrev pub Tells : Folder → Holding → BundleParts → Type 0
Tells folder holding.Off bundle = ⊥
Tells folder holding.Unknown bundle = ⊤
Tells folder holding.Stale bundle = kept_in folder bundle ≡ None
Tells folder (holding.Held made) bundle = kept_in folder bundle ≡ Some made

-- no file of a stage stands in a folder
abbrev pub HasNoFile : Folder → Stage → Type 0
HasNoFile folder place =
    list_all (λ file. not (is_some (files.get folder (file_name file)))) (stage_makes place) ≡ true

-- a stage needs nothing: it is kept, or it is off and no file of it stands there
abbrev pub IsSettled : Folder → Stage → StageState → Type 0
IsSettled folder place state.Kept = ⊤
IsSettled folder place state.Off = HasNoFile folder place
IsSettled folder place _ = ⊥

module _ (S : StageParts) where
  module _ (folder : Folder) (values : List ℤ) where
    -- what is held of the stage in each of some places tells of the bundles that are handed to it, where
    -- so much is known of the places before them
    abbrev pub AllTell : List BundleParts → KnownFiles → List Stage → Type 0
    AllTell bundles known [] = ⊤
    AllTell bundles known (place ∷ places) =
        ((bundle : BundleParts) → Contains bundles bundle → bundle.stage ≡ S.placed values place
        → Tells folder (holding_in S folder values known place) bundle)
        × AllTell bundles (known_with known place (holding_in S folder values known place)) places

    abbrev pub AreSettled : KnownFiles → List Stage → Type 0
    AreSettled known [] = ⊤
    AreSettled known (place ∷ places) =
        IsSettled folder place (state_by folder place (holding_in S folder values known place))
        × AreSettled (known_with known place (holding_in S folder values known place)) places

  -- a run makes its stages to the end, takes no step, and writes nothing
  pub record IsIdle (folder : Folder) : Type 0 where
    pub end : (run_over S folder).end ≡ end.Done
    pub work : (run_over S folder).work ≡ 0
    pub writes : writes_of S folder ≡ []

  -- What is told of the states of a folder's stages tells of the next run; where all are kept, or off
  -- without files, it has nothing to do.
  pub record TellsNext (folder : Folder) : Type 0 where
    pub stages : IfOk (effective (look_in folder)) (λ values.
        AllTell folder values (handed (trace_over S folder (hand_of folder))) nothing_known S.places)
    pub idle : IfOk (effective (look_in folder)) (λ values.
        AreSettled folder values nothing_known S.places → IsIdle folder)
