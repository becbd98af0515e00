-- What is known is the first end among the events so far.
use Rattle.connections.specs.Ends.{IsFirstEnd}
use Rattle.connections.proofs.earliest.first_end.Given as goal

abbrev pub invariant-loop-event : goal.invariant-loop-event
invariant-loop-event l = IsFirstEnd l.net l.ways l.query.to l.event l.first
