use Rattle.plan_num.proofs.Common.{◌∙◌, ◌++◌, [], ap, arith, eqb-true, false, refl, sym}
use Rattle.text_fields.specs.Handed.{fed}
use Rattle.text_fields.specs.Rows.{parts_of}
use Rattle.text_fields.specs.Told.{given}
use Rattle.text_fields.proofs.FedFacts.{empty_fed, odd_fed, signed_fed, told_fed}
use Rattle.text_fields.proofs.HandedLines.{some_bytes, told_some}
use Rattle.text_fields.proofs.handed.line_and_rest.Goals as goal

pub returns-then-is_empty-clause-same : goal.returns-then-is_empty-clause-same
returns-then-is_empty-clause-same c = grind (arith, empty_fed, eqb-true)

pub returns-then-begins-clause-same : goal.returns-then-begins-clause-same
returns-then-begins-clause-same c = grind (arith, signed_fed)

pub returns-then-is_odd-clause-same : goal.returns-then-is_odd-clause-same
returns-then-is_odd-clause-same c = grind (arith, odd_fed)

pub returns-else-is_odd-clause-same : goal.returns-else-is_odd-clause-same
returns-else-is_odd-clause-same c =
    told_fed c.args.line.now _ _ (c.behind_feed-after.ensures c.args.line.now c.requires.plain)
    c.args.rest.now (sym c.begins.ensures ∙ c.if-begins.false)
    (sym c.is_odd.ensures ∙ c.if-is_odd.false)
    (empty_fed [] _ _ (c.behind_feed-after.ensures [] (λ k d h. absurd (omega arith))) refl)
    ∙ ap (λ told. told ++ fed (given false (parts_of c.args.rest.now)))
    (sym c.before_comment-told.ensures)

pub returns-else-is_odd-clause-some : goal.returns-else-is_odd-clause-some
returns-else-is_odd-clause-some c = grind (arith, told_some, some_bytes)
