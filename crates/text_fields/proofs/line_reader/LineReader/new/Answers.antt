use Rattle.plan_num.proofs.Common.{arith}
use Rattle.text_fields.proofs.LinesRead.{lines_few}
use Rattle.text_fields.proofs.line_reader.LineReader.new.Goals as goal

pub invariant_of-result : goal.invariant_of-result
invariant_of-result c = grind (arith, lines_few)
