-- The line problem of inputs without a fault is one.
use Rattle.plan_num.proofs.Common.{◌≡◌, ℕ, ℤ, List, [], ◌∷◌, ◌++◌, length, map, zip, sym, subst}
use Rattle.plan_num.proofs.Common.{arith, All, IsStrictlySortedBy, int_cmp, length-map, All-cons}
use Rattle.plan_num.proofs.Common.{All-head, All-nil, All-tail}
use Rattle.tables.specs.declared.file_id.FileId.TheVariants as file
use Rattle.tables.proofs.Common.{front_none, back_none, input_faults}
use Rattle.giv_files.proofs.Common.{BundleParts, input_text}
use Rattle.walks.specs.declared.edge.Edge.{Edge}
use Rattle.ptn_network.specs.declared.edge_load.EdgeLoad.{EdgeLoad}
use Rattle.ptn_network.specs.Loads.{IsLoad, load_input, loads_of}
use Rattle.ptn_network.specs.Networks.{network_faults, network_in}
use Rattle.ptn_network.proofs.LoadRows.{loads_sound}
use Rattle.ptn_network.proofs.Sound.{network_sound}
use Rattle.line_walks.specs.GivenCosts.{IsCost, costs_of}
use Rattle.line_walks.specs.PoolCosts.{pool_cost_input}
use Rattle.line_walks.specs.Pools.{IsLine, LineParts, pool_faults, pool_of}
use Rattle.line_walks.proofs.SoundCosts.{costs_count, costs_sound}
use Rattle.line_walks.proofs.WholeLines.{whole_lines}
use Rattle.line_cost_model.proofs.Common.{IsBoundedEdge, IsCostedLine, IsId, IsProblem}
use Rattle.line_search.specs.GivenProblems.{bounded_by, costed_by, problem_faults, problem_of}
use Rattle.line_search.proofs.EdgesOfTexts.{edge_ids}
use Rattle.line_search.proofs.PushedEdges.{bounded_ids, bounded_length, is_bounded}
use Rattle.line_search.proofs.PushedLines.{costed_ids, is_costed}

each_bounded : (edges : List Edge) (loads : List EdgeLoad)
    → All (λ (edge : Edge). IsId edge.id) edges → All IsLoad loads
    → All IsBoundedEdge (map (λ at. bounded_by at.0 at.1) (zip edges loads))
each_bounded [] loads ids sound = All-nil IsBoundedEdge
each_bounded (edge ∷ edges) [] ids sound = All-nil IsBoundedEdge
each_bounded (edge ∷ edges) (load ∷ loads) ids sound =
    All-cons IsBoundedEdge (bounded_by edge load) (map (λ at. bounded_by at.0 at.1) (zip edges loads))
    (is_bounded edge load (All-head (λ (edge : Edge). IsId edge.id) edge edges ids) (All-head IsLoad load loads sound))
    (each_bounded edges loads (All-tail (λ (edge : Edge). IsId edge.id) edge edges ids)
    (All-tail IsLoad load loads sound))

each_costed : (edges : List Edge) (count : ℕ) → count ≡ length edges → (lines : List LineParts)
    (costs : List ℤ) → All (IsLine edges) lines → All IsCost costs
    → All (IsCostedLine count) (map (λ at. costed_by at.0 at.1) (zip lines costs))
each_costed edges count same [] costs sound cheap = All-nil (IsCostedLine count)
each_costed edges count same (line ∷ lines) [] sound cheap = All-nil (IsCostedLine count)
each_costed edges count same (line ∷ lines) (cost ∷ costs) sound cheap =
    grind (
      arith,
      All-cons,
      is_costed,
      All-head,
      All-tail,
      each_costed edges count same lines costs (All-tail (IsLine edges) line lines sound)
          (All-tail IsCost cost costs cheap),
    )

pub problem_sound : (bundle : BundleParts) → problem_faults bundle ≡ []
    → IsProblem (problem_of bundle)
unfolding problem_faults problem_of loads_of
problem_sound bundle none =
    let text = input_text bundle in
    let network = network_in bundle.inputs in
    let edges = network.edges in
    let lines = pool_of network (text 2) in
    let networks = network_faults (text 0) (text 1) in
    let pools = pool_faults network (text 2) in
    let bounds = input_faults (load_input file.Load edges) (text 3) in
    let costing = input_faults (pool_cost_input lines) (text 4) in
    let three = front_none (networks ++ pools ++ bounds) costing none in
    let two = front_none (networks ++ pools) bounds three in
    let is_network = network_sound (text 0) (text 1) (front_none networks pools two) in
    let are_lines = whole_lines _ network (text 2) is_network (back_none networks pools two) in
    let ids = edge_ids (text 0) (text 1) (front_none networks pools two) in
    let loads = loads_sound file.Load edges (text 3) (back_none (networks ++ pools) bounds three) in
    let costs = costs_sound lines (text 4) (back_none (networks ++ pools ++ bounds) costing none) in
    let loads_long : length (loads_of file.Load edges (text 3)) ≡ length edges = length-map edges _ in
    let costs_long = costs_count lines (text 4) in
    record {
      edges_rise = subst (IsStrictlySortedBy int_cmp)
          (sym (bounded_ids edges (loads_of file.Load edges (text 3)) loads_long))
          is_network.edges_rise;
      lines_rise = subst (IsStrictlySortedBy int_cmp)
          (sym (costed_ids lines (costs_of lines (text 4)) costs_long)) are_lines.rise;
      edges = each_bounded edges (loads_of file.Load edges (text 3)) ids loads;
      lines = each_costed edges _
          (bounded_length edges (loads_of file.Load edges (text 3)) loads_long) lines
          (costs_of lines (text 4)) are_lines.each costs;
    }
