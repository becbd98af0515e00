use Rattle.plan_num.proofs.Common.{◌∙◌, ◌+◌, ◌-◌, ap, sym, subst, arith, nat_lt, slice_set, Bool}
use Rattle.plan_num.proofs.Common.{List, get_or_default, get_or_from_slice_get}
use Rattle.line_cost_model.specs.RunningSums.{IsOfLeast, over}
use Rattle.line_cost_model.proofs.EdgeCounts.{edge_put, few_over, least_put}
use Rattle.line_cost_model.proofs.edge_sums.LeastSums.put.Goals as goal

pub overflow_add-self : goal.overflow_add-self
overflow_add-self c = grind (arith, few_over)

pub overflow_sub-self : goal.overflow_sub-self
overflow_sub-self c =
    let was = c.index-before.ensures
    ∙ get_or_default c.args.self.now.sums.items c.args.edge _ _
    (omega (arith, c.requires.there, c.requires.sound.size)) in
    let put = edge_put over c.args.problem.now.edges c.args.self.now.sums.items c.args.edge c.args.sum
    c.index-before.result.now c.bounds_of-bounds.result c.requires.sound.size c.requires.there
    c.bounds_of-bounds.ensures was in
    omega (arith, put, c.requires.sound.over_is, c.over.ensures.over, c.over-2.ensures.over)

pub renew-requires-clause-was : goal.renew-requires-clause-was
renew-requires-clause-was c = grind (arith, get_or_default, get_or_from_slice_get, nat_lt)

pub returns-clause-sound : goal.returns-clause-sound
returns-clause-sound c =
    let was = c.index-before.ensures
    ∙ get_or_default c.args.self.now.sums.items c.args.edge _ _
    (omega (arith, c.requires.there, c.requires.sound.size)) in
    let put = edge_put over c.args.problem.now.edges c.args.self.now.sums.items c.args.edge c.args.sum
    c.index-before.result.now c.bounds_of-bounds.result c.requires.sound.size c.requires.there
    c.bounds_of-bounds.ensures was in
    let edges = c.args.problem.now.edges in
    let sums = c.args.self.now.sums.items in
    let now = c.args.self.now.over + c.over.result - c.over-2.result in
    subst (λ (short : List Bool). IsOfLeast edges (slice_set sums c.args.edge c.args.sum) short now)
    (sym (c.renew.ensures ∙ ap (slice_set c.args.self.now.short c.args.edge) c.is_short.ensures))
    (least_put edges sums c.args.self.now.short c.args.self.now.over now c.args.edge c.args.sum
    c.index-before.result.now c.bounds_of-bounds.result c.requires.sound c.requires.there
    c.bounds_of-bounds.ensures was
    (omega (arith, put, c.requires.sound.over_is, c.over.ensures.over, c.over-2.ensures.over)))
