-- The links so far are passed.
use Rattle.plan_search.specs.Nears.{ArePassed}
use Rattle.plan_search.proofs.looks.next_nearer.Given as goal

abbrev pub invariant-loop-step : goal.invariant-loop-step
invariant-loop-step l = ArePassed l.links l.own l.potentials.v l.nears l.first l.step
