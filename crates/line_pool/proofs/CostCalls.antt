-- The stage of costs, from what each of its inputs gives.
use Rattle.plan_num.proofs.Common.{◌≡◌, List, [], refl, subst, Ok, Err, arith}
use Rattle.giv_files.specs.declared.key.Key.TheVariants as key
use Rattle.giv_files.specs.declared.made.Made.{Made}
use Rattle.giv_files.proofs.Common.{BundleParts, SettingsFit, Fits, input_text, StageGives}
use Rattle.giv_files.proofs.Common.{amount_within, stage_refused}
use Rattle.tables.specs.declared.refusal.StageFault.{StageFault}
use Rattle.tables.proofs.Common.{Refuses, refused_append}
use Rattle.giv_files.specs.declared.stage.Stage.TheVariants as stage
use Rattle.walks.proofs.Common.{NetworkParts}
use Rattle.ptn_network.specs.Networks.{network_of, network_faults}
use Rattle.line_pool.specs.CostStage.{costs_made, cost_faults, cost_stage}
use Rattle.line_pool.specs.LineCosts.{AreModest}
use Rattle.line_walks.specs.Pools.{LineParts, pool_of, pool_faults}

-- the settings of a bundle that fits are within their ranges
pub settings_modest : (bundle : BundleParts) → bundle.stage ≡ stage.Cost → Fits bundle
    → AreModest bundle.settings
settings_modest bundle is fits =
    let own = subst (λ of. SettingsFit of bundle.settings) is fits.settings in
    record {
      fixed = (amount_within stage.Cost bundle.settings key.LpoolCostsFixed _ _ own refl refl
          refl).1;
      by_length = (amount_within stage.Cost bundle.settings key.LpoolCostsLength _ _ own refl refl
          refl).1;
      by_edge = (amount_within stage.Cost bundle.settings key.LpoolCostsEdges _ _ own refl refl
          refl).1;
    }

module _ (bundle : BundleParts) where
  -- texts that give no network
  pub network_refused : (fault : StageFault)
      → Refuses (network_faults (input_text bundle 0) (input_text bundle 1)) fault
      → StageGives (cost_stage bundle) (Err fault)
  unfolding cost_stage
  network_refused fault h = stage_refused (cost_faults bundle) _ fault
      (refused_append (network_faults (input_text bundle 0) (input_text bundle 1)) _ fault h)

  module _ (network : NetworkParts)
      (none : network_faults (input_text bundle 0) (input_text bundle 1) ≡ [])
      (is : network ≡ network_of (input_text bundle 0) (input_text bundle 1)) where
    later : pool_faults network (input_text bundle 2) ≡ cost_faults bundle
    later = grind arith

    -- a text that gives no pool
    pub pool_refused : (fault : StageFault)
        → Refuses (pool_faults network (input_text bundle 2)) fault
        → StageGives (cost_stage bundle) (Err fault)
    unfolding cost_stage
    pool_refused fault h = stage_refused (cost_faults bundle) _ fault (subst (λ all. Refuses all fault) later h)

    -- texts without a fault
    pub costs_given : (pool : List LineParts) (made : Made)
        → pool_faults network (input_text bundle 2) ≡ [] → pool
        ≡ pool_of network (input_text bundle 2) → made
        ≡ costs_made bundle.settings network.edges pool → StageGives (cost_stage bundle) (Ok made)
    unfolding cost_stage
    costs_given pool made faultless read given = grind arith
