-- The links so far and those of the event that are left are all of them, and the next one is out of
-- the event.
use Rattle.plan_num.proofs.Common.{◌≡◌, ◌<◌, ◌-◌, ◌++◌, length, get_or, drop}
use Rattle.propagation.specs.declared.links.Link.{Link}
use Rattle.propagation.specs.Outgoing.{out_of}
use Rattle.propagation.proofs.outgoing.Outgoing.push_links.Given as goal

abbrev pub invariant-loop-at : goal.invariant-loop-at
invariant-loop-at l = record {
  all : l.all.items ++ out_of (drop l.at l.links) l.event ≡ l.fn.all.items ++ out_of l.links l.event;
  own : (d : Link) → l.at < length l.links → (get_or l.links l.at d).step.from ≡ l.event;
}

abbrev pub decreases-loop-at : goal.decreases-loop-at
decreases-loop-at l = length l.links - l.at
