use Rattle.plan_num.proofs.Common.{inr}
use Rattle.canonical_potentials.proofs.drops.Drops.walk_on.Goals as goal

pub returns-in-Some-clause-taken : goal.returns-in-Some-clause-taken
returns-in-Some-clause-taken c = inr (c.in-Some.node, c.in-Some.ensures)
