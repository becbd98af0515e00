-- The lists so far are those of the edges so far.
use Rattle.plan_num.proofs.Common.{◌≡◌, map, take}
use Rattle.line_cost_model.specs.Crossings.{AreLonger}
use Rattle.line_cost_model.proofs.problem.longer_lists.Given as goal

abbrev pub invariant-loop-edge : goal.invariant-loop-edge
invariant-loop-edge l = record {
  edges : map (λ one. one.edge) l.longer.items ≡ take l.edge-index l.edges;
  lines : AreLonger l.all l.line l.longer.items;
}
