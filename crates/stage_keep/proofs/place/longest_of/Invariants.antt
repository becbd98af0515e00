-- The place is one of them.
use Rattle.plan_num.proofs.Common.{◌<◌, length}
use Rattle.stage_keep.proofs.place.longest_of.Given as goal

abbrev pub invariant-loop-index : goal.invariant-loop-index
invariant-loop-index l = l.longest < length l.places
