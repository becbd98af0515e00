-- The sums of the root of a line problem.
use Rattle.plan_num.proofs.Common.{arith, ◌≡◌, ℕ, zero, suc, ◌∙◌, List, [], ◌∷◌, length, get_or}
use Rattle.plan_num.proofs.Common.{map, replicate, All, Option, IfSome, refl, ap, length-map}
use Rattle.plan_num.proofs.Common.{get_or-replicate, length-replicate}
use Rattle.line_cost_model.specs.declared.edge_sums.EdgeSums.{EdgeSums}
use Rattle.line_cost_model.specs.declared.range.LineRange.{LineRange}
use Rattle.line_cost_model.specs.Problems.{CostedLine, ProblemParts, IsProblem}
use Rattle.line_cost_model.specs.Regions.{IsRange, greatest_in, least_in, root_of}
use Rattle.line_cost_model.specs.RunningSums.{AreDriven, AreSums, IsOfGreatest}
use Rattle.line_cost_model.specs.RunningSums.{IsOfLeast, IsSummed}
use Rattle.line_cost_model.proofs.RunningSums.{none_driven, none_cost}

zeros : (lines : List CostedLine) (most : CostedLine → ℕ) (k : ℕ)
    → get_or (least_in (map (λ line. record { lo = 0; hi = most line }) lines)) k 0 ≡ 0
zeros [] most k = refl
zeros (line ∷ lines) most zero = refl
zeros (line ∷ lines) most (suc k) = zeros lines most k

none_least : (problem : ProblemParts) (ranges : List LineRange) → ranges ≡ root_of problem → (k : ℕ)
    → get_or (least_in ranges) k 0 ≡ 0
none_least problem ranges is k =
    ap (λ (ranges : List LineRange). get_or (least_in ranges) k 0) is ∙ zeros problem.lines _ k

pub root_long : (problem : ProblemParts) (ranges : List LineRange) → ranges ≡ root_of problem
    → length ranges ≡ length problem.lines
root_long problem ranges is = ap length is ∙ length-map problem.lines _

least_long : (problem : ProblemParts) (ranges : List LineRange) → ranges ≡ root_of problem
    → length (least_in ranges) ≡ length problem.lines
least_long problem ranges is = length-map ranges (λ range. range.lo) ∙ root_long problem ranges is

pub root_sums : (problem : ProblemParts) (ranges : List LineRange) (sums : EdgeSums) → ranges ≡ root_of problem
    → sums.least.sums.items ≡ replicate (length problem.edges) 0
    → AreDriven problem (greatest_in ranges) sums.greatest.sums.items
    → IsOfLeast problem.edges sums.least.sums.items sums.least.short sums.least.over
    → IsOfGreatest problem.edges sums.greatest.sums.items sums.greatest.under
    → AreSums problem ranges sums
root_sums problem ranges sums is zero_least greatest_are of_least of_greatest = grind (
  arith,
  length-replicate,
  get_or,
  get_or-replicate,
  none_driven,
  least_long,
  none_least,
)

pub root_summed : (problem : ProblemParts) (ranges : List LineRange) (sums : Option EdgeSums)
    → IsProblem problem → ranges ≡ root_of problem → All IsRange ranges
    → IfSome sums (AreSums problem ranges) → IsSummed problem ranges sums 0
root_summed problem ranges sums problem_is is sound sums_are = grind (
  arith,
  root_long,
  none_cost,
  least_long,
  none_least,
)
