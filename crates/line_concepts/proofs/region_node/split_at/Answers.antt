use Rattle.plan_num.proofs.Common.{arith, sym, ◌∙◌}
use Rattle.line_concepts.proofs.NamedNodes.{split_names}
use Rattle.line_concepts.proofs.region_node.split_at.Goals as goal

pub middle-requires : goal.middle-requires
middle-requires c =
    split_names c.args.region.now.problem c.args.region.now.ranges c.in-Some.line
    (sym c.in-Some.is ∙ c.first_open.ensures.first)

pub returns-in-Some-clause-names : goal.returns-in-Some-clause-names
returns-in-Some-clause-names c = grind (arith, split_names)
