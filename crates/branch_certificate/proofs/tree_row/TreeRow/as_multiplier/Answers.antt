use Rattle.plan_num.proofs.Common.{sym, ◌∙◌, arith, w64}
use Rattle.std.proofs.lemmas.Int.{to_z-of_z}
use Rattle.branch_certificate.proofs.ReadRules.{multiplier_unknown, multiplier_stray}
use Rattle.branch_certificate.proofs.ReadRules.{multiplier_of_0, multiplier_says}
use Rattle.branch_certificate.proofs.tree_row.TreeRow.as_multiplier.Goals as goal

pub returns-in_default : goal.returns-in_default
returns-in_default c =
    multiplier_unknown c.args.ids.now c.args.self.now c.requires.kind
    (sym c.edge.ensures.index ∙ c.in_default.is)

pub returns-then-has_value : goal.returns-then-has_value
returns-then-has_value c =
    multiplier_stray c.args.ids.now c.args.self.now c.requires.kind c.in-Some.edge
    (sym c.edge.ensures.index ∙ c.in-Some.is) (sym c.has_value.ensures ∙ c.if-has_value.true)

pub returns-then-not-has_multiplier : goal.returns-then-not-has_multiplier
returns-then-not-has_multiplier c =
    multiplier_of_0 c.args.ids.now c.args.self.now c.requires.kind c.in-Some.edge
    (sym c.edge.ensures.index ∙ c.in-Some.is)
    (sym c.has_multiplier.ensures ∙ c.if-not-has_multiplier.true)

pub returns : goal.returns
returns c =
    let millionths = to_z-of_z w64 c.args.self.now.multiplier (record { sfits = omega arith }) in
    multiplier_says c.args.ids.now c.args.self.now c.requires.kind c.in-Some.edge _
    (sym c.edge.ensures.index ∙ c.in-Some.is) c.in-Some.ensures.small
    (sym c.has_value.ensures ∙ c.if-has_value.false)
    (sym c.has_multiplier.ensures ∙ c.if-not-has_multiplier.false) c.requires.row (sym millionths)
