-- What the stage of loads owes to the chain, and what later stages take of it.
use Rattle.plan_num.proofs.Common.{◌≡◌, ℕ, ℤ, List, [], inr, refl, arith}
use Rattle.tables.specs.declared.file_id.FileId.{FileId}
use Rattle.tables.specs.declared.file_id.FileId.TheVariants as file
use Rattle.giv_files.specs.declared.stage.Stage.TheVariants as stage
use Rattle.tables.proofs.Common.{input_faults, names_only}
use Rattle.ptn_network.specs.Loads.{load_input}
use Rattle.ptn_network.specs.Networks.{network_of}
use Rattle.demand_load.proofs.LoadMakes.{load_stage_makes}
use Rattle.demand_load.proofs.LoadNames.{load_stage_names}
use Rattle.demand_load.proofs.LoadReads.{loads_are_right}
use Rattle.stage_chain.specs.Hand.{is_hand}
use Rattle.stage_chain.specs.Laws.{IsRightOver}
use Rattle.planning_stages.specs.Planning.{planning, stage_model}
use Rattle.planning_stages.proofs.ContentFiles.{content_none, content_stands}
use Rattle.planning_stages.proofs.StageLaws.{StageLaws, any}

pub load_laws : StageLaws stage.Load
unfolding planning stage_model is_hand
load_laws = record {
  makes = load_stage_makes;
  right = loads_are_right;
  refuses =
      λ values look reason was is. grind (arith, names_only, load_stage_names);
  names = λ bundle reason is. inr (load_stage_names any refl refl refl refl bundle reason is);
  stand = λ values folder bundle lacks none. content_stands stage.Load refl refl folder lacks;
  unbroken = λ values look made own. content_none stage.Load _ made own.0;
}

module _ (values : List ℤ) (look : FileId → List ℕ) where
  pub loads_accepted : IsRightOver planning values look stage.Load
      → input_faults (load_input file.Load (network_of (look file.Stop) (look file.Edge)).edges) (look file.Load) ≡ []
  unfolding planning stage_model
  loads_accepted loads = grind arith
