-- The line problem: edges with bounds of frequency, and lines over them with costs.
use Rattle.std.specs.Prelude.{ℕ, ℤ, pos, ◌≤◌, ◌<◌, ◌≤ℤ◌, nat_eq, List, length, map, All}
use Rattle.std.specs.List.{IsDistinct}
use Rattle.std.specs.List.Sorted.{IsStrictlySortedBy}
use Rattle.std.specs.Ordering.{int_cmp}
use Rattle.line_cost_model.specs.declared.edge.BoundedEdge.{BoundedEdge}
use Rattle.plan_num.specs.declared.number.TheConstants.{NUMBER_LIMIT}

-- a line: its id, its cost in millionths, and the indexes of its edges
pub record CostedLine : Type 0 where
  pub id : ℤ
  pub cost : ℕ
  pub edges : List ℕ

-- edges with their minimal and maximal frequencies, and lines, both by id rising
pub record ProblemParts : Type 0 where
  pub edges : List BoundedEdge
  pub lines : List CostedLine

-- what an id may be
pub record IsId (id : ℤ) : Type 0 where
  pub low : pos 1 ≤ℤ id
  pub high : id ≤ℤ pos 1000000000

-- an edge whose bounds of frequency are in order and not too great
pub record IsBoundedEdge (edge : BoundedEdge) : Type 0 where
  pub id : IsId edge.id
  pub in_order : edge.least ≤ edge.most
  pub few : edge.most ≤ 1000

-- a line over so many edges: it goes over one of them at least and over none twice, and its cost is
-- not too great
pub record IsCostedLine (edges : ℕ) (line : CostedLine) : Type 0 where
  pub id : IsId line.id
  pub cheap : line.cost ≤ NUMBER_LIMIT
  pub some : 0 < length line.edges
  pub distinct : IsDistinct nat_eq line.edges
  pub there : All (λ edge. edge < edges) line.edges

-- what always holds of a line problem
pub record IsProblem (problem : ProblemParts) : Type 0 where
  pub edges_rise : IsStrictlySortedBy int_cmp (map (λ edge. edge.id) problem.edges)
  pub lines_rise : IsStrictlySortedBy int_cmp (map (λ line. line.id) problem.lines)
  pub edges : All IsBoundedEdge problem.edges
  pub lines : All (IsCostedLine (length problem.edges)) problem.lines
