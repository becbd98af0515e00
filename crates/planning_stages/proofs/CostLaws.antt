-- What the stage of costs owes to the chain, and what later stages take of it.
use Rattle.plan_num.proofs.Common.{◌≡◌, ℕ, ℤ, List, [], inr, refl, arith}
use Rattle.tables.specs.declared.file_id.FileId.{FileId}
use Rattle.tables.specs.declared.file_id.FileId.TheVariants as file
use Rattle.giv_files.specs.declared.stage.Stage.TheVariants as stage
use Rattle.tables.proofs.Common.{input_faults, names_only}
use Rattle.ptn_network.specs.Networks.{network_of}
use Rattle.line_walks.specs.PoolCosts.{pool_cost_input}
use Rattle.line_walks.specs.Pools.{pool_of}
use Rattle.line_pool.proofs.CostMakes.{cost_stage_makes}
use Rattle.line_pool.proofs.CostNames.{cost_stage_names}
use Rattle.line_pool.proofs.CostReads.{costs_are_right}
use Rattle.stage_chain.specs.Hand.{is_hand}
use Rattle.stage_chain.specs.Laws.{IsRightOver}
use Rattle.planning_stages.specs.Planning.{planning, stage_model}
use Rattle.planning_stages.proofs.ContentFiles.{content_none, content_stands}
use Rattle.planning_stages.proofs.StageLaws.{StageLaws, any}

pub cost_laws : StageLaws stage.Cost
unfolding planning stage_model is_hand
cost_laws = record {
  makes = cost_stage_makes;
  right = costs_are_right;
  refuses =
      λ values look reason was is. grind (arith, names_only, cost_stage_names);
  names = λ bundle reason is. inr (cost_stage_names any refl refl refl bundle reason is);
  stand = λ values folder bundle lacks none. content_stands stage.Cost refl refl folder lacks;
  unbroken = λ values look made own. content_none stage.Cost _ made own.0;
}

module _ (values : List ℤ) (look : FileId → List ℕ) where
  pub costs_accepted : IsRightOver planning values look stage.Cost
      → input_faults (pool_cost_input (pool_of (network_of (look file.Stop) (look file.Edge)) (look file.Pool)))
      (look file.PoolCost) ≡ []
  unfolding planning stage_model
  costs_accepted costs = grind arith
