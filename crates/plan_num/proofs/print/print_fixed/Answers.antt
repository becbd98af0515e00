use Rattle.plan_num.proofs.Common.{arith}
use Rattle.std.proofs.lemmas.Int.{to_z-of_z}
use Rattle.plan_num.proofs.ReadBack.{fixed_back, number_back}
use Rattle.plan_num.proofs.Shortest.{number_shortest}
use Rattle.plan_num.proofs.print.print_fixed.Goals as goal

pub returns-clause-read_back : goal.returns-clause-read_back
returns-clause-read_back c = grind (arith, to_z-of_z, fixed_back)

pub returns-clause-spells : goal.returns-clause-spells
returns-clause-spells c = grind (arith, to_z-of_z, number_back)

pub returns-clause-shortest : goal.returns-clause-shortest
returns-clause-shortest c = grind (arith, to_z-of_z, number_shortest)
