-- What each input of the search gives: the first fault, or a part of the line problem.
use Rattle.plan_num.proofs.Common.{◌≡◌, ℕ, ℤ, List, [], ◌++◌, ap, subst, sym, ◌∙◌, arith}
use Rattle.tables.specs.declared.file_id.FileId.TheVariants as file
use Rattle.tables.specs.declared.refusal.Refusal.{Refusal}
use Rattle.tables.specs.declared.refusal.StageFault.{StageFault}
use Rattle.tables.proofs.Common.{Refuses, input_faults, refused_append}
use Rattle.giv_files.proofs.Common.{BundleParts, input_text}
use Rattle.ptn_network.specs.declared.edge_load.EdgeLoad.{EdgeLoad}
use Rattle.ptn_network.specs.Loads.{load_input, loads_of}
use Rattle.walks.proofs.Common.{NetworkParts}
use Rattle.ptn_network.specs.Networks.{network_faults, network_of}
use Rattle.line_walks.specs.GivenCosts.{costs_of}
use Rattle.line_walks.specs.PoolCosts.{pool_cost_input}
use Rattle.line_walks.specs.Pools.{LineParts, pool_of, pool_faults}
use Rattle.line_cost_model.proofs.Common.{ProblemParts}
use Rattle.line_search.specs.GivenProblems.{problem_faults, problem_of, problem_over}

-- the faults of the four parts, one after the other
abbrev chain : List Refusal → List Refusal → List Refusal → List Refusal → List Refusal
chain network pool loads costs = network ++ pool ++ loads ++ costs

module _ (bundle : BundleParts) where
  abbrev text : ℕ → List ℕ
  text = input_text bundle

  abbrev loads_faults : NetworkParts → List Refusal
  loads_faults network = input_faults (load_input file.Load network.edges) (text 3)

  abbrev cost_faults : List LineParts → List Refusal
  cost_faults pool = input_faults (pool_cost_input pool) (text 4)

  -- texts that give no network
  pub network_refused : (fault : StageFault)
      → Refuses (network_faults (input_text bundle 0) (input_text bundle 1)) fault
      → Refuses (problem_faults bundle) fault
  unfolding problem_faults
  network_refused fault by = refused_append _ _ fault (refused_append _ _ fault
      (refused_append _ _ fault by))

  module _ (network : NetworkParts)
      (none : network_faults (input_text bundle 0) (input_text bundle 1) ≡ [])
      (is : network ≡ network_of (input_text bundle 0) (input_text bundle 1)) where
    -- the faults behind the network
    behind_network : chain [] (pool_faults network (text 2)) (loads_faults network)
        (cost_faults (pool_of network (text 2))) ≡ problem_faults bundle
    unfolding problem_faults
    behind_network = grind arith

    -- a text that gives no pool
    pub pool_refused : (fault : StageFault)
        → Refuses (pool_faults network (input_text bundle 2)) fault
        → Refuses (problem_faults bundle) fault
    pool_refused fault by = subst (λ all. Refuses all fault) behind_network
        (refused_append _ _ fault (refused_append _ _ fault by))

    module _ (pool : List LineParts) (fine : pool_faults network (input_text bundle 2) ≡ [])
        (lines : pool ≡ pool_of network (input_text bundle 2)) where
      behind_pool : chain [] [] (loads_faults network) (cost_faults pool) ≡ problem_faults bundle
      behind_pool = grind (arith, behind_network)

      -- a text that gives no loads
      pub loads_refused : (fault : StageFault)
          → Refuses (input_faults (load_input file.Load network.edges) (input_text bundle 3)) fault
          → Refuses (problem_faults bundle) fault
      loads_refused fault by =
          subst (λ all. Refuses all fault) behind_pool (refused_append _ _ fault by)

      module _ (loads : List EdgeLoad)
          (loaded : input_faults (load_input file.Load network.edges) (input_text bundle 3) ≡ [])
          (loads_are : loads ≡ loads_of file.Load network.edges (input_text bundle 3)) where
        behind_loads : cost_faults pool ≡ problem_faults bundle
        behind_loads = ap (λ first. chain [] [] first (cost_faults pool)) (sym loaded) ∙ behind_pool

        -- a text that gives no costs
        pub costs_refused : (fault : StageFault)
            → Refuses (input_faults (pool_cost_input pool) (input_text bundle 4)) fault
            → Refuses (problem_faults bundle) fault
        costs_refused fault by = subst (λ all. Refuses all fault) behind_loads by

        -- texts without a fault
        pub given : (costs : List ℤ) (problem : ProblemParts)
            → input_faults (pool_cost_input pool) (input_text bundle 4) ≡ []
            → costs ≡ costs_of pool (input_text bundle 4)
            → problem ≡ problem_over network.edges loads pool costs
            → (problem_faults bundle ≡ []) × (problem ≡ problem_of bundle)
        unfolding problem_of
        given costs problem costed costs_are made = grind (arith, behind_loads)
