use Rattle.plan_num.proofs.Common.{arith}
use Rattle.text_fields.proofs.FedFacts.{parts_after, parts_alone}
use Rattle.text_fields.proofs.handed.behind_feed.Goals as goal

pub returns-then-is_empty : goal.returns-then-is_empty
returns-then-is_empty c line plain = parts_alone line c.args.text.now (grind arith) plain

pub returns-else-is_empty : goal.returns-else-is_empty
returns-else-is_empty c line plain = grind (arith, parts_after)
