use Rattle.plan_num.proofs.Common.{arith, ◌∙◌, length, sym, take_rest}
use Rattle.text_fields.proofs.FedFacts.{bare_fed, feed_fed}
use Rattle.text_fields.proofs.HandedLines.{some_told}
use Rattle.text_fields.proofs.handed.front_lines.Goals as goal

pub returns-in-Some-clause-same : goal.returns-in-Some-clause-same
returns-in-Some-clause-same c = grind (arith, feed_fed)

pub returns-then-is_told-clause-same : goal.returns-then-is_told-clause-same
returns-then-is_told-clause-same c =
    bare_fed c.args.text.now c.bare_front-bare.result.now c.bare_front-bare.ensures.front
    c.bare_front-bare.ensures.bare _ _ c.place_of_byte.result c.if-bare-lt-LONG.true
    c.if-bare-text.true
    (c.bare_front-bare.ensures.comment c.if-bare-lt-LONG.true c.if-bare-text.true)
    (sym c.is_told.ensures ∙ c.if-is_told.true)
    (take_rest c.args.text.now (length c.bare_front-bare.result.now)) c.place_of_byte.ensures.place
    (take_rest _ c.place_of_byte.result)

pub returns-then-is_told-clause-some : goal.returns-then-is_told-clause-some
returns-then-is_told-clause-some c = grind (arith, some_told)
