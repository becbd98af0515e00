use Rattle.plan_num.proofs.Common.{sym, ◌∙◌}
use Rattle.branch_certificate.proofs.ReadRules.{empty_unknown, empty_aside, empty_stray, empty_says}
use Rattle.branch_certificate.proofs.tree_row.TreeRow.as_empty.Goals as goal

pub returns-in_default : goal.returns-in_default
returns-in_default c =
    empty_unknown c.args.ids.now c.args.self.now c.requires.kind
    (sym c.edge.ensures.index ∙ c.in_default.is)

pub returns-in_default-side : goal.returns-in_default-side
returns-in_default-side c =
    empty_aside c.args.ids.now c.args.self.now c.requires.kind c.in-Some.edge
    (sym c.edge.ensures.index ∙ c.in-Some.is) (sym c.side.ensures ∙ c.in_default-side.is)

pub returns-then-has_multiplier : goal.returns-then-has_multiplier
returns-then-has_multiplier c =
    empty_stray c.args.ids.now c.args.self.now c.requires.kind c.in-Some.edge
    (sym c.edge.ensures.index ∙ c.in-Some.is)
    (sym c.has_multiplier.ensures ∙ c.if-has_multiplier.true)

pub returns : goal.returns
returns c =
    empty_says c.args.ids.now c.args.self.now c.requires.kind c.in-Some.edge c.in-Some-side.side
    (sym c.edge.ensures.index ∙ c.in-Some.is) (sym c.side.ensures ∙ c.in-Some-side.is)
    (sym c.has_multiplier.ensures ∙ c.if-has_multiplier.false)
