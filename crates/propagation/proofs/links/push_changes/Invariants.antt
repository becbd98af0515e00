-- The links so far and those of the changes that are left are all of them.
use Rattle.plan_num.proofs.Common.{◌≡◌, ◌++◌, drop}
use Rattle.propagation.specs.Links.{change_links}
use Rattle.propagation.proofs.links.push_changes.Given as goal

abbrev pub invariant-loop-index : goal.invariant-loop-index
invariant-loop-index l =
    l.links.items ++ change_links l.events l.index (drop l.index l.changes)
    ≡ l.fn.links.items ++ change_links l.events 0 l.changes
