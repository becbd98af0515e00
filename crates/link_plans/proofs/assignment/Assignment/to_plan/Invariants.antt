-- The first trips have their successors so far.
use Rattle.link_plans.proofs.Copies.{IsCopied}
use Rattle.link_plans.proofs.assignment.Assignment.to_plan.Given as goal

abbrev pub invariant-loop-trip : goal.invariant-loop-trip
invariant-loop-trip l = IsCopied l.fn.self l.plan l.trip
