use Rattle.plan_num.proofs.Common.{◌+◌, ◌∙◌, ap, refl, get_or, arith, sum_by, range_with_len}
use Rattle.plan_num.proofs.Common.{sum_by_push}
use Rattle.line_cost_model.specs.RunningSums.{at_edge, under}
use Rattle.line_cost_model.proofs.EdgeCounts.{range_more, told_here, zero_plus}
use Rattle.line_cost_model.proofs.edge_sums.under_count.Goals as goal

pub loop-edge-preserved : goal.loop-edge-preserved
loop-edge-preserved c =
    let edges = c.args.problem.now.edges in
    let edge = c.loop-edge.edge in
    let f = at_edge under edges c.args.sums.now in
    let here = told_here under edges c.args.sums.now edge c.under-count.result (get_or c.args.sums.now edge 0)
    c.bounds_of.result c.bounds_of.ensures refl c.under-count.ensures.under in
    let more = ap (sum_by f) (range_more 0 edge) ∙ sum_by_push f (range_with_len 0 edge) (0 + edge) in
    let same = ap f (zero_plus edge) in
    record {
      count = omega (arith, here, more, same, c.loop-edge.invariant.count);
      few = omega (arith, c.under-count.ensures.one, c.loop-edge.invariant.few);
    }
