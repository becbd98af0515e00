use Rattle.text_fields.proofs.Lines.{one_part, first_of_parts}
use Rattle.text_fields.proofs.line.first_part.Goals as goal

pub returns-in-None-clause-parts : goal.returns-in-None-clause-parts
returns-in-None-clause-parts c = (one_part c.args.text.now c.in-None.ensures).0

pub returns-in-None-clause-plain : goal.returns-in-None-clause-plain
returns-in-None-clause-plain c = (one_part c.args.text.now c.in-None.ensures).1

pub returns-in-Some-clause-parts : goal.returns-in-Some-clause-parts
returns-in-Some-clause-parts c = (first_of_parts c.args.text.now c.in-Some.end c.in-Some.ensures).0

pub returns-in-Some-clause-plain : goal.returns-in-Some-clause-plain
returns-in-Some-clause-plain c = (first_of_parts c.args.text.now c.in-Some.end c.in-Some.ensures).1
