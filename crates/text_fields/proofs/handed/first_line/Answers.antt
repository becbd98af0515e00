use Rattle.plan_num.proofs.Common.{arith, take-append-drop, take_rest}
use Rattle.text_fields.proofs.FedFacts.{first_plain, stops_rest}
use Rattle.text_fields.proofs.handed.first_line.Goals as goal

pub line_and_rest-requires : goal.line_and_rest-requires
line_and_rest-requires c = grind (arith, first_plain, stops_rest)

pub returns-clause-same : goal.returns-clause-same
returns-clause-same c = grind (arith, take-append-drop, take_rest)
