use Rattle.plan_num.proofs.Common.{◌∙◌, ◌<◌, slice_set, nat_lt, get_or, false, replicate, length}
use Rattle.plan_num.proofs.Common.{ap, sym, arith, inl, inr, List, get_or-set_other}
use Rattle.plan_num.proofs.Common.{get_or-set_same, Bool, cases_eq, length-set}
use Rattle.plan_num.proofs.Common.{get_or_from_slice_get}
use Rattle.line_cost_model.specs.declared.edge.BoundedEdge.{BoundedEdge}
use Rattle.line_cost_model.specs.RunningSums.{no_bounds}
use Rattle.line_cost_model.proofs.EdgeCounts.{zero_sums}
use Rattle.line_cost_model.proofs.FewLines.{few_edges}
use Rattle.line_cost_model.proofs.edge_sums.LeastSums.zero.Goals as goal

pub none-requires : goal.none-requires
none-requires c = grind (arith, few_edges)

pub loop-edge-preserved : goal.loop-edge-preserved
loop-edge-preserved c =
    let edges = c.args.problem.now.edges in
    let edge = c.loop-edge.edge in
    let short = c.loop-edge.short in
    let there : edge < length edges = omega (arith, c.loop-edge-test.true, c.edge_count-count.ensures.count) in
    let at = get_or_from_slice_get edges edge c.bounds_of.result no_bounds c.bounds_of.ensures in
    record {
      marks = ap length c.set.ensures ∙ length-set short edge c.is_short.result ∙ c.loop-edge.invariant.marks;
      told = λ k before.
          ap (λ (short : List Bool). get_or short k false) c.set.ensures ∙ elim (cases_eq k edge) [
            | inl same ↦
                ap (λ k. get_or (slice_set short edge c.is_short.result) k false) same
                ∙ get_or-set_same short edge c.is_short.result false (omega (arith, there, c.loop-edge.invariant.marks))
                ∙ c.is_short.ensures ∙ ap (λ (at : BoundedEdge). nat_lt 0 at.least) (sym at)
                ∙ ap (λ k. nat_lt 0 (get_or edges k no_bounds).least) (sym same)
            | inr other ↦
                get_or-set_other short edge k c.is_short.result false other
                ∙ c.loop-edge.invariant.told k (omega (arith, before, other))
          ];
    }

pub returns-clause-sound : goal.returns-clause-sound
returns-clause-sound c =
    zero_sums c.args.problem.now.edges c.in_ok-sums.sums.items c.loop-edge.short
    (few_edges c.args.problem.now c.edge_count-count.ensures.sound)
    (c.in_ok-sums.ensures.items_if_clones_equal (λ y is. is) ∙ ap (λ n. replicate n 0) c.edge_count-count.ensures.count)
    c.loop-edge.invariant.marks
    (λ edge within. c.loop-edge.invariant.told edge
    (omega (arith, within, c.loop-edge-test.false, c.edge_count-count.ensures.count)))
