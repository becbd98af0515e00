use Rattle.plan_num.proofs.Common.{arith}
use Rattle.pesp.proofs.Classed.{owned}
use Rattle.pesp.proofs.cycles.cycle_shifts.Goals as goal

pub join_from-requires-clause-classes : goal.join_from-requires-clause-classes
join_from-requires-clause-classes c = grind (arith, owned)

pub join_from-requires-clause-links : goal.join_from-requires-clause-links
join_from-requires-clause-links c = grind arith

pub join_from-requires-clause-event : goal.join_from-requires-clause-event
join_from-requires-clause-event c = grind arith
