-- The rest of the links leaves of the events so far what all links leave of all.
use Rattle.plan_num.proofs.Common.{◌≡◌, drop}
use Rattle.connections.specs.Links.{followed}
use Rattle.connections.proofs.check.events_left.Given as goal

abbrev pub invariant-loop-link : goal.invariant-loop-link
invariant-loop-link l = followed (drop l.link-index l.links) l.left ≡ followed l.links l.events
