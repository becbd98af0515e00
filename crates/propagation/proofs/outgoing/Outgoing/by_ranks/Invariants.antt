-- The links so far are those of the events of the ranks so far.
use Rattle.plan_num.proofs.Common.{◌≡◌, take}
use Rattle.propagation.specs.Outgoing.{by_ranks}
use Rattle.propagation.proofs.outgoing.Outgoing.by_ranks.Given as goal

abbrev pub invariant-loop-rank : goal.invariant-loop-rank
invariant-loop-rank l = l.all.items ≡ by_ranks l.links (take l.rank-index l.ranks)
