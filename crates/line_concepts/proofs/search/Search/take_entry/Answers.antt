use Rattle.plan_num.proofs.Common.{arith}
use Rattle.line_concepts.proofs.VisitsInTurn.{split_inside}
use Rattle.line_concepts.proofs.search.Search.take_entry.Goals as goal

pub go_on-requires-clause-inside : goal.go_on-requires-clause-inside
go_on-requires-clause-inside c = grind (arith, split_inside)
