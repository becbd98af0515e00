use Rattle.plan_num.proofs.Common.{arith}
use Rattle.text_fields.proofs.FedFacts.{bare_sign}
use Rattle.text_fields.proofs.handed.bare_front.Goals as goal

pub returns-clause-bare : goal.returns-clause-bare
returns-clause-bare c = grind (arith, bare_sign)

pub returns-clause-comment : goal.returns-clause-comment
returns-clause-comment c short more = grind (arith, bare_sign)
