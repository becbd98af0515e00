-- What the numbers so far are at least is added up.
use Rattle.plan_num.proofs.Common.{◌≡◌, take}
use Rattle.pesp_judge.specs.Leaves.{least_of}
use Rattle.pesp_judge.proofs.leaf.least_of.Given as goal

abbrev pub invariant-loop-index : goal.invariant-loop-index
invariant-loop-index l =
    l.sum ≡ least_of l.period (take l.index l.residual) (take l.index l.it-items)
