use Rattle.plan_num.proofs.Common.{◌∙◌, ◌+◌, ◌-◌, arith, get_or_default}
use Rattle.line_cost_model.specs.RunningSums.{under}
use Rattle.line_cost_model.proofs.EdgeCounts.{edge_put, few_under, greatest_put}
use Rattle.line_cost_model.proofs.edge_sums.GreatestSums.put.Goals as goal

pub overflow_add-self : goal.overflow_add-self
overflow_add-self c = grind (arith, few_under)

pub overflow_sub-self : goal.overflow_sub-self
overflow_sub-self c =
    let was = c.index-before.ensures
    ∙ get_or_default c.args.self.now.sums.items c.args.edge _ _
    (omega (arith, c.requires.there, c.requires.sound.size)) in
    let put = edge_put under c.args.problem.now.edges c.args.self.now.sums.items c.args.edge c.args.sum
    c.index-before.result.now c.bounds_of-bounds.result c.requires.sound.size c.requires.there
    c.bounds_of-bounds.ensures was in
    omega (arith, put, c.requires.sound.under_is, c.under.ensures.under, c.under-2.ensures.under)

pub returns-clause-sound : goal.returns-clause-sound
returns-clause-sound c =
    let was = c.index-before.ensures
    ∙ get_or_default c.args.self.now.sums.items c.args.edge _ _
    (omega (arith, c.requires.there, c.requires.sound.size)) in
    let put = edge_put under c.args.problem.now.edges c.args.self.now.sums.items c.args.edge c.args.sum
    c.index-before.result.now c.bounds_of-bounds.result c.requires.sound.size c.requires.there
    c.bounds_of-bounds.ensures was in
    greatest_put c.args.problem.now.edges c.args.self.now.sums.items c.args.self.now.under
    (c.args.self.now.under + c.under.result - c.under-2.result) c.args.edge c.args.sum
    c.index-before.result.now c.bounds_of-bounds.result c.requires.sound c.requires.there
    c.bounds_of-bounds.ensures was
    (omega (arith, put, c.requires.sound.under_is, c.under.ensures.under, c.under-2.ensures.under))
