use Rattle.plan_num.proofs.Common.{◌≡◌, ◌≤◌, ◌*◌, ℕ, List, sum_by, take}
use Rattle.line_cost_model.specs.declared.range.LineRange.{LineRange}
use Rattle.line_cost_model.specs.Regions.{range_of}
use Rattle.line_cost_model.proofs.sums.ends_on.Given as goal

-- both sums are those over the lines so far, and each of them adds less than 2^32
pub record Sums (least greatest : ℕ) (region : List LineRange) (lines : List ℕ) (index : ℕ) : Type 0 where
  pub least_is : least ≡ sum_by (λ line. (range_of region line).lo) (take index lines)
  pub greatest_is : greatest ≡ sum_by (λ line. (range_of region line).hi) (take index lines)
  pub least_few : least ≤ index * 4294967296
  pub greatest_few : greatest ≤ index * 4294967296

abbrev pub invariant-loop-line : goal.invariant-loop-line
invariant-loop-line l = Sums l.least l.greatest l.ranges l.line-items l.line-index
