-- The trips so far are met.
use Rattle.plan_num.proofs.Common.{ℕ, ◌<◌}
use Rattle.link_plans.proofs.Common.{links_in}
use Rattle.plan_search.specs.Parting.{IsMet}
use Rattle.plan_search.proofs.parting.are_met.Given as goal

abbrev pub invariant-loop-i : goal.invariant-loop-i
invariant-loop-i l = (k : ℕ) → k < l.i → IsMet (links_in l.trips) l.potentials l.assignment k
