use Rattle.plan_num.proofs.Common.{ap, sym, ◌∙◌, arith, unsigned_abs, w64}
use Rattle.std.proofs.lemmas.Int.{to_z-of_z}
use Rattle.branch_certificate.proofs.ReadRules.{split_unknown, split_stray, split_says}
use Rattle.branch_certificate.proofs.tree_row.TreeRow.as_split.Goals as goal

pub returns-in_default : goal.returns-in_default
returns-in_default c =
    split_unknown c.args.ids.now c.args.self.now c.requires.kind
    (sym c.line.ensures ∙ c.in_default.is)

pub returns-then-has_multiplier : goal.returns-then-has_multiplier
returns-then-has_multiplier c =
    split_stray c.args.ids.now c.args.self.now c.requires.kind c.in-Some.line
    (sym c.line.ensures ∙ c.in-Some.is)
    (sym c.has_multiplier.ensures ∙ c.if-has_multiplier.true)

pub returns : goal.returns
returns c =
    let value = to_z-of_z w64 c.args.self.now.value (record { sfits = omega arith }) in
    split_says c.args.ids.now c.args.self.now c.requires.kind c.in-Some.line _
    (sym c.line.ensures ∙ c.in-Some.is)
    (sym c.has_multiplier.ensures ∙ c.if-has_multiplier.false) c.requires.row
    (ap unsigned_abs (sym value))
