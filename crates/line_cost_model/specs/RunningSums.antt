-- Inner words: the running sums of a region. A reader of the contracts of this crate needs none of
-- them.
use Rattle.std.specs.Prelude.{◌≡◌, ℕ, pos, nat_lt, sum_by, ◌+◌, ◌<◌, ◌≤◌, nat_eq, if◌then◌else◌}
use Rattle.std.specs.Prelude.{Bool, false, List, length, get_or, All, Option, IfSome}
use Rattle.std.specs.List.{IsDistinct, list_any, range_with_len}
use Rattle.line_cost_model.specs.declared.edge.BoundedEdge.{BoundedEdge}
use Rattle.line_cost_model.specs.declared.edge_sums.EdgeSums.{EdgeSums}
use Rattle.line_cost_model.specs.declared.range.LineRange.{LineRange}
use Rattle.line_cost_model.specs.Problems.{IsProblem, ProblemParts}
use Rattle.line_cost_model.specs.Concepts.{cost_of, frequency_on}
use Rattle.line_cost_model.specs.Regions.{IsRange, greatest_in, least_in}

-- sums over edges are how often a concept drives each of them
pub record AreDriven (problem : ProblemParts) (frequencies sums : List ℕ) : Type 0 where
  pub size : length sums ≡ length problem.edges
  pub told : (edge : ℕ) → edge < length problem.edges
      → get_or sums edge 0 ≡ frequency_on problem.lines frequencies edge

-- the frequency of a line is counted in the sums of its edges, and these are not too great
pub record AreCounted (frequency : ℕ) (sums edges : List ℕ) : Type 0 where
  pub there : All (λ edge. edge < length sums) edges
  pub distinct : IsDistinct nat_eq edges
  pub counted : All (λ edge. frequency ≤ get_or sums edge 0) edges
  pub few : All (λ edge. get_or sums edge 0 ≤ 1000000000000) edges

-- a line over some edges has another frequency
abbrev pub AreMoved : List ℕ → ℕ → ℕ → List ℕ → List ℕ → Type 0
AreMoved edges before after sums now =
    (edge : ℕ) → edge < length sums
    → get_or now edge 0 + (if list_any (nat_eq edge) edges then before else 0)
    ≡ get_or sums edge 0 + (if list_any (nat_eq edge) edges then after else 0)

-- an edge that is not there
abbrev pub no_bounds : BoundedEdge
no_bounds = record { id = pos 0; least = 0; most = 0 }

-- an edge is driven too often by a sum of least frequencies, as a number
abbrev pub over : BoundedEdge → ℕ → ℕ
over bounds least = if nat_lt bounds.most least then 1 else 0

-- an edge is not driven often enough by a sum of greatest frequencies, as a number
abbrev pub under : BoundedEdge → ℕ → ℕ
under bounds greatest = if nat_lt greatest bounds.least then 1 else 0

-- a number that is told of the edge at an index and its sum
abbrev pub at_edge : (BoundedEdge → ℕ → ℕ) → List BoundedEdge → List ℕ → ℕ → ℕ
at_edge told edges sums edge = told (get_or edges edge no_bounds) (get_or sums edge 0)

-- the sum of that over all edges
abbrev pub over_edges : (BoundedEdge → ℕ → ℕ) → List BoundedEdge → List ℕ → ℕ
over_edges told edges sums = sum_by (at_edge told edges sums) (range_with_len 0 (length edges))

-- which edges least frequencies leave short of their minimal frequency, and how many they drive too
-- often
pub record IsOfLeast (edges : List BoundedEdge) (sums : List ℕ) (short : List Bool) (over_count : ℕ)
    : Type 0 where
  pub size : length sums ≡ length edges
  pub few : length edges ≤ 1000000000
  pub marks : length short ≡ length edges
  pub short_is : (edge : ℕ) → edge < length edges → get_or short edge false
      ≡ nat_lt (get_or sums edge 0) (get_or edges edge no_bounds).least
  pub over_is : over_count ≡ over_edges over edges sums

-- how many edges greatest frequencies leave below their minimal frequency
pub record IsOfGreatest (edges : List BoundedEdge) (sums : List ℕ) (under_count : ℕ) : Type 0 where
  pub size : length sums ≡ length edges
  pub few : length edges ≤ 1000000000
  pub under_is : under_count ≡ over_edges under edges sums

-- the sums of edges are those of the ends of the ranges of a region
pub record AreSums (problem : ProblemParts) (ranges : List LineRange) (sums : EdgeSums) : Type 0 where
  pub least_are : AreDriven problem (least_in ranges) sums.least.sums.items
  pub greatest_are : AreDriven problem (greatest_in ranges) sums.greatest.sums.items
  pub of_least : IsOfLeast problem.edges sums.least.sums.items sums.least.short sums.least.over
  pub of_greatest : IsOfGreatest problem.edges sums.greatest.sums.items sums.greatest.under

-- what always holds of a region, which may keep such sums
pub record IsSummed (problem : ProblemParts) (ranges : List LineRange) (sums : Option EdgeSums) (cost : ℕ)
    : Type 0 where
  pub problem_is : IsProblem problem
  pub each : length ranges ≡ length problem.lines
  pub sound : All IsRange ranges
  pub cost_is : cost ≡ cost_of problem (least_in ranges)
  pub sums_are : IfSome sums (AreSums problem ranges)
