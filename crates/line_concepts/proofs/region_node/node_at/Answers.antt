use Rattle.plan_num.proofs.Common.{ap, sym, ◌∙◌, option_map}
use Rattle.line_concepts.specs.declared.node.Node.TheVariants as node
use Rattle.line_concepts.specs.Searches.{concept_in}
use Rattle.line_concepts.proofs.NamedNodes.{bound_names, edge_names}
use Rattle.line_concepts.proofs.region_node.node_at.Goals as goal

pub returns-in-Some-clause-names : goal.returns-in-Some-clause-names
returns-in-Some-clause-names c =
    edge_names c.args.region.now.problem c.args.region.now.ranges c.in-Some.edge c.in-Some.side
    (sym c.in-Some.is ∙ c.empty_edge.ensures.first)

pub returns-in-Some-2-clause-names : goal.returns-in-Some-2-clause-names
returns-in-Some-2-clause-names c =
    bound_names c.args.region.now.problem c.args.region.now.ranges (concept_in c.args.best.now)
    c.in-Some-2.multipliers
    (ap (option_map (λ multipliers. node.Bound multipliers)) (sym c.in-Some-2.is)
    ∙ c.in_ok-multipliers.ensures.node)
