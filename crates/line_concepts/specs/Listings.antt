-- The listing of a search: what it says of each region that it comes to.
use Rattle.std.specs.Prelude.{ℕ, zero, suc, ◌+◌, ◌-◌, ◌/◌, nat_le, not, if◌then◌else◌, List, []}
use Rattle.std.specs.Prelude.{◌∷◌, ◌++◌, map, filter, filter_map, find, sum_by, zip, Option, Some}
use Rattle.std.specs.Prelude.{None, option_map, unwrap_or}
use Rattle.std.specs.List.{list_all, enumerate_from, last_or}
use Rattle.line_cost_model.specs.declared.range.LineRange.{LineRange}
use Rattle.line_cost_model.specs.Problems.{CostedLine, ProblemParts}
use Rattle.line_cost_model.specs.Chosen.{stands_before}
use Rattle.line_cost_model.specs.Concepts.{cost_of}
use Rattle.line_cost_model.specs.DualBounds.{dual_bound, multipliers_of}
use Rattle.line_cost_model.specs.Regions.{empty_edge, has_several, least_in, range_of, root_of}
use Rattle.line_cost_model.specs.Regions.{part_up_to, part_from}
use Rattle.line_concepts.specs.declared.node.Node.{Node}
use Rattle.line_concepts.specs.declared.node.Node.TheVariants as node
use Rattle.line_concepts.specs.Firsts.{first_of}

-- the lines of a region whose ranges have several values, with their indexes
abbrev pub open_at : ProblemParts → List LineRange → List (ℕ × CostedLine)
open_at problem region =
    map (λ at. (at.0, at.1.0))
    (filter (λ at. has_several at.1.1) (enumerate_from 0 (zip problem.lines region)))

-- the one of some lines before which no other of them stands in the order of lines
abbrev pub first_among : List (ℕ × CostedLine) → Option ℕ
first_among lines =
    option_map (λ at. at.0) (find (λ at. list_all (λ other. not (stands_before other.1 at.1)) lines) lines)

-- the first open line of a region
abbrev pub first_open : ProblemParts → List LineRange → Option ℕ
first_open problem region = first_among (open_at problem region)

-- the middle of a range, rounded down
abbrev pub middle : LineRange → ℕ
middle range = (range.lo + range.hi) / 2

-- a region without a feasible concept, by its first empty edge
abbrev pub as_empty : ProblemParts → List LineRange → Option Node
as_empty problem region = option_map (λ at. node.Empty at.0 at.1) (empty_edge problem region)

-- a region whose dual bound is not below what the best concept costs
abbrev pub as_bound : ProblemParts → List LineRange → Option (List ℕ) → Option Node
as_bound problem region None = None
as_bound problem region (Some best) =
    if nat_le (cost_of problem best) (dual_bound problem region)
    then Some (node.Bound (multipliers_of problem region))
    else None

-- a region that is split, at the middle of the range of its first open line
abbrev pub as_split : ProblemParts → List LineRange → Option Node
as_split problem region =
    option_map (λ line. node.Split line (middle (range_of region line))) (first_open problem region)

-- what is said of a region beside the best concept so far: the first of these that applies; without one of
-- them it is a single concept
abbrev pub node_at : ProblemParts → List LineRange → Option (List ℕ) → Node
node_at problem region best =
    unwrap_or
    (first_of (as_empty problem region ∷ as_bound problem region best ∷ as_split problem region ∷ []))
    node.Point

-- an entry of a listing: what is said of a region, and the concept that is found there
pub record Entry : Type 0 where
  pub node : Node
  pub found : Option (List ℕ)

-- an entry that finds none
abbrev pub entry : Node → Entry
entry node = record { node = node; found = None }

-- the best concept behind some entries: the last that they found, or else the one before them
abbrev pub best_after : Option (List ℕ) → List Entry → Option (List ℕ)
best_after best entries = last_or best (filter_map (λ entry. entry.found) entries)

-- the entries of a region by what is said of it: behind a split those of the lower part, and then those of
-- the upper part with the best so far
abbrev pub entries_by : (List LineRange → Option (List ℕ) → List Entry)
    → List LineRange → Option (List ℕ) → Node → List Entry
entries_by below region best (node.Split line at) =
    let lower = below (part_up_to region line at) best in
    entry (node.Split line at) ∷ lower ++ below (part_from region line (at + 1)) (best_after best lower)
entries_by below region best node.Point = record { node = node.Point; found = Some (least_in region) } ∷ []
entries_by below region best node = entry node ∷ []

-- the entries of a region, where it is split so many levels deep at most
unfoldable pub entries_within : ProblemParts → ℕ → List LineRange → Option (List ℕ) → List Entry
entries_within problem zero region best = []
entries_within problem (suc levels) region best =
    entries_by (entries_within problem levels) region best (node_at problem region best)

-- how many levels are enough: each split takes a value or more off a range
abbrev pub levels_of : List LineRange → ℕ
levels_of region = sum_by (λ range. range.hi - range.lo) region + 1

-- the entries of a region beside the best concept so far
abbrev pub visit : ProblemParts → List LineRange → Option (List ℕ) → List Entry
visit problem region best = entries_within problem (levels_of region) region best

-- the listing of a line problem: that of its root region, without a best concept
unfoldable pub listing : ProblemParts → List Entry
listing problem = visit problem (root_of problem) None
