use Rattle.plan_num.proofs.Common.{◌∙◌, to_z, of_z, sym, w128}
use Rattle.std.proofs.lemmas.Int.{to_z-of_z}
use Rattle.line_concepts.proofs.Certifying.{none_certifies}
use Rattle.line_concepts.proofs.FirstOfAll.{answer_exact, answer_first, answer_least, shape_first}
use Rattle.line_concepts.proofs.check.check_tree.Goals as goal

pub returns-in-Some-clause-first : goal.returns-in-Some-clause-first
returns-in-Some-clause-first c =
    shape_first c.args.problem.now c.args.best c.args.tree.now c.in-Some.fault
    (sym c.in-Some.is ∙ c.shape_fault.ensures)

pub returns-in-Some-clause-exact : goal.returns-in-Some-clause-exact
returns-in-Some-clause-exact c =
    none_certifies c.args.problem.now c.args.best c.args.tree.now _
    (shape_first c.args.problem.now c.args.best c.args.tree.now c.in-Some.fault
    (sym c.in-Some.is ∙ c.shape_fault.ensures))

pub returns-in-None-clause-first : goal.returns-in-None-clause-first
returns-in-None-clause-first c =
    answer_first c.args.problem.now c.args.best c.args.tree.now c.node_fault.result
    (sym c.in-None.is ∙ c.shape_fault.ensures) (to_z w128 (of_z w128 c.args.best))
    (to_z-of_z w128 c.args.best c.ranges.best) c.node_fault.ensures.first

pub returns-in-None-clause-exact : goal.returns-in-None-clause-exact
returns-in-None-clause-exact c =
    answer_exact c.args.problem.now c.args.best c.args.tree.now c.node_fault.result
    (answer_first c.args.problem.now c.args.best c.args.tree.now c.node_fault.result
    (sym c.in-None.is ∙ c.shape_fault.ensures) (to_z w128 (of_z w128 c.args.best))
    (to_z-of_z w128 c.args.best c.ranges.best) c.node_fault.ensures.first)

pub returns-in-None-clause-least : goal.returns-in-None-clause-least
returns-in-None-clause-least c =
    answer_least c.args.problem.now c.args.best c.args.tree.now c.node_fault.result
    c.node_fault.ensures.each
    (answer_first c.args.problem.now c.args.best c.args.tree.now c.node_fault.result
    (sym c.in-None.is ∙ c.shape_fault.ensures) (to_z w128 (of_z w128 c.args.best))
    (to_z-of_z w128 c.args.best c.ranges.best) c.node_fault.ensures.first)
