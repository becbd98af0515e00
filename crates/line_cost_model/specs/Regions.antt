-- Regions of concepts: a range of frequencies for each line.
use Rattle.std.specs.Prelude.{ℕ, ◌+◌, ◌-◌, ◌*◌, ◌≤◌, ◌<◌, nat_lt, min, if◌then◌else◌, Bool, List}
use Rattle.std.specs.Prelude.{[], ◌∷◌, map, filter_map, slice_get, slice_index_or, slice_set}
use Rattle.std.specs.Prelude.{Option, Some, None, option_map, unwrap_or}
use Rattle.std.specs.List.{AllZip, flat_map, range_with_len, enumerate_from, reduce}
use Rattle.line_cost_model.specs.declared.edge.BoundedEdge.{BoundedEdge}
use Rattle.line_cost_model.specs.declared.range.LineRange.{LineRange}
use Rattle.line_cost_model.specs.declared.side.Side.{Side}
use Rattle.line_cost_model.specs.declared.side.Side.TheVariants as side
use Rattle.line_cost_model.specs.Problems.{CostedLine, ProblemParts}
use Rattle.line_cost_model.specs.Concepts.{IsFeasible, frequency_on}

-- a frequency lies in a range
pub record IsWithin (frequency : ℕ) (range : LineRange) : Type 0 where
  pub low : range.lo ≤ frequency
  pub high : frequency ≤ range.hi

-- a concept lies in a region
abbrev pub LiesIn : List LineRange → List ℕ → Type 0
LiesIn region frequencies = AllZip IsWithin frequencies region

-- a line problem, and a range for each of its lines
pub record RegionParts : Type 0 where
  pub problem : ProblemParts
  pub ranges : List LineRange

-- a range has several values
abbrev pub has_several : LineRange → Bool
has_several range = nat_lt range.lo range.hi

-- the concepts of least and of greatest frequencies
abbrev pub least_in : List LineRange → List ℕ
least_in region = map (λ range. range.lo) region

abbrev pub greatest_in : List LineRange → List ℕ
greatest_in region = map (λ range. range.hi) region

-- all frequencies of a range, rising
abbrev pub values_of : LineRange → List ℕ
values_of range = range_with_len range.lo (range.hi + 1 - range.lo)

-- all concepts of a region
unfoldable pub concepts_in : List LineRange → List (List ℕ)
concepts_in [] = [] ∷ []
concepts_in (range ∷ region) =
    flat_map (λ frequency. map (λ rest. frequency ∷ rest) (concepts_in region)) (values_of range)

-- how many there are
unfoldable pub concept_count : List LineRange → ℕ
concept_count [] = 1
concept_count (range ∷ region) = (range.hi + 1 - range.lo) * concept_count region

-- the maximal frequency of the edge of an index
abbrev pub most_on : List BoundedEdge → ℕ → Option ℕ
most_on edges edge = option_map (λ at. at.most) (slice_get edges edge)

-- the greatest frequency that its edges leave a line: the least of the maximal frequencies of its
-- edges
abbrev pub most_of : List BoundedEdge → CostedLine → ℕ
most_of edges line = unwrap_or (reduce min (filter_map (most_on edges) line.edges)) 0

-- the region with all feasible concepts: each line has a frequency from 0 to the greatest that its
-- edges leave it
abbrev pub root_of : ProblemParts → List LineRange
root_of problem = map (λ line. record { lo = 0; hi = most_of problem.edges line }) problem.lines

-- the range of a line
abbrev pub range_of : List LineRange → ℕ → LineRange
range_of region line = slice_index_or region line (record { lo = 0; hi = 0 })

-- a region with another range for one line
abbrev pub with_range : List LineRange → ℕ → ℕ → ℕ → List LineRange
with_range region line lo hi = slice_set region line (record { lo = lo; hi = hi })

-- the part of a region with at most so many drives of a line, and the part with more
abbrev pub part_up_to : List LineRange → ℕ → ℕ → List LineRange
part_up_to region line at = with_range region line (range_of region line).lo at

abbrev pub part_from : List LineRange → ℕ → ℕ → List LineRange
part_from region line from = with_range region line from (range_of region line).hi

-- an edge is driven too often by the least frequencies of a region, or not often enough by the
-- greatest
abbrev pub IsEmptyAt : List CostedLine → List LineRange → ℕ → BoundedEdge → Side → Type 0
IsEmptyAt lines region edge bounds side.Over = bounds.most < frequency_on lines (least_in region) edge
IsEmptyAt lines region edge bounds side.Under = frequency_on lines (greatest_in region) edge < bounds.least

-- on which side an edge is so, where it is
abbrev pub empty_side : List CostedLine → List LineRange → ℕ → BoundedEdge → Option Side
empty_side lines region edge bounds =
    if nat_lt bounds.most (frequency_on lines (least_in region) edge) then Some side.Over
    else (if nat_lt (frequency_on lines (greatest_in region) edge) bounds.least then Some side.Under
    else None)

-- the edges of a region that are so, in their order
abbrev pub empty_edges : ProblemParts → List LineRange → List (ℕ × Side)
empty_edges problem region =
    filter_map (λ at. option_map (λ side. (at.0, side)) (empty_side problem.lines region at.0 at.1))
    (enumerate_from 0 problem.edges)

-- the first of them
unfoldable pub empty_edge : ProblemParts → List LineRange → Option (ℕ × Side)
empty_edge problem region = slice_get (empty_edges problem region) 0

-- a region has no feasible concept
abbrev pub HasNoFeasible : ProblemParts → List LineRange → Type 0
HasNoFeasible problem region = (concept : List ℕ) → IsFeasible problem concept → ¬ LiesIn region concept

-- a region has every feasible concept
abbrev pub HasEachFeasible : ProblemParts → List LineRange → Type 0
HasEachFeasible problem region = (concept : List ℕ) → IsFeasible problem concept → LiesIn region concept

-- what always holds of a range: its ends are in order and not too great
pub record IsRange (range : LineRange) : Type 0 where
  pub in_order : range.lo ≤ range.hi
  pub few : range.hi ≤ 1000

-- a range lies inside another one
pub record IsInside (inner outer : LineRange) : Type 0 where
  pub low : outer.lo ≤ inner.lo
  pub high : inner.hi ≤ outer.hi
