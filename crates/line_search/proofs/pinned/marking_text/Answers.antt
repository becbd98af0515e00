use Rattle.plan_num.proofs.Common.{arith, is_some, option_map}
use Rattle.line_search.proofs.PinnedReads.{no_fault, no_rule}
use Rattle.line_search.proofs.pinned.marking_text.Goals as goal

pub returns-in-Ok : goal.returns-in-Ok
returns-in-Ok c = grind (arith, no_fault, is_some, no_rule, option_map)

pub returns-in-Err-Row : goal.returns-in-Err-Row
returns-in-Err-Row c = grind (arith, no_fault, is_some, no_rule)
