use Rattle.plan_num.proofs.Common.{arith, ne_eqb, sym}
use Rattle.text_fields.proofs.HandedLines.{told_feed, told_nothing, told_other}
use Rattle.text_fields.proofs.handed.is_told.Goals as goal

pub returns-in-empty : goal.returns-in-empty
returns-in-empty c = sym (told_nothing c.args.front.now c.in-empty.len_below)

pub returns-then-last-ne10 : goal.returns-then-last-ne10
returns-then-last-ne10 c = grind (arith, told_other, ne_eqb)

pub returns-else-last-ne10 : goal.returns-else-last-ne10
returns-else-last-ne10 c = grind (arith, told_feed)
