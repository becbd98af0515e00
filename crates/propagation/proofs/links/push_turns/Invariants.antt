-- The links so far and those of the turns that are left are all of them.
use Rattle.plan_num.proofs.Common.{◌≡◌, ◌++◌, drop}
use Rattle.propagation.specs.Links.{turn_links}
use Rattle.propagation.proofs.links.push_turns.Given as goal

abbrev pub invariant-loop-turn : goal.invariant-loop-turn
invariant-loop-turn l =
    l.links.items ++ turn_links l.events (drop l.turn-index l.turns)
    ≡ l.fn.links.items ++ turn_links l.events l.turns
