-- The sums are those of the labels so far.
use Rattle.plan_num.proofs.Common.{◌≡◌, pos, map, take, option_map}
use Rattle.walks.specs.Labels.{sum_of}
use Rattle.walks.proofs.labels.Labels.sums.Given as goal

abbrev pub invariant-loop-label : goal.invariant-loop-label
invariant-loop-label l = l.sums.items ≡ map (λ label. option_map pos (sum_of label))
    (take l.label-index l.self)
