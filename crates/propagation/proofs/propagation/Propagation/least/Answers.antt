use Rattle.propagation.proofs.KeptMore.{grow_with_kept}
use Rattle.propagation.proofs.propagation.Propagation.least.Goals as goal

pub returns-clause-grow : goal.returns-clause-grow
returns-clause-grow c = grow_with_kept _ _ _ c.in_ok-times.ensures.least
