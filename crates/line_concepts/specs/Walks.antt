-- Inner words: the nodes of a tree one by one, each with its region, and the first place of each
-- kind of fault so far. A reader of the contracts of this crate needs none of them.
use Rattle.std.specs.Prelude.{ℕ, ℤ, ◌+◌, ◌≤◌, ◌<◌, if◌then◌else◌, Bool, List, [], ◌∷◌, length, ⊤}
use Rattle.std.specs.Prelude.{Option, Some, None, option_map}
use Rattle.std.specs.Option.{option_or}
use Rattle.line_cost_model.specs.declared.range.LineRange.{LineRange}
use Rattle.line_cost_model.specs.Problems.{ProblemParts}
use Rattle.line_cost_model.specs.Regions.{with_range, part_up_to, part_from}
use Rattle.line_concepts.specs.declared.fault.TreeFault.{TreeFault}
use Rattle.line_concepts.specs.declared.fault.TreeFault.TheVariants as fault
use Rattle.line_concepts.specs.declared.first_faults.FirstFaults.{FirstFaults}
use Rattle.line_concepts.specs.declared.node.Node.{Node}
use Rattle.line_concepts.specs.declared.node.Node.TheVariants as node
use Rattle.line_concepts.specs.declared.region_walk.OpenSplit.{OpenSplit}
use Rattle.line_concepts.specs.TreeFaults.{is_not_empty, exceeds_costs, is_below, is_no_point}
use Rattle.line_concepts.specs.Trees.{PlacedNode}

-- ---- regions

-- a line problem, the region at which a node stands, and those of the trees behind its own
pub record WalkedRegions : Type 0 where
  pub problem : ProblemParts
  pub region : List LineRange
  pub waiting : List (List LineRange)

-- the regions that wait behind a node: for each other tree that is to come, its region
abbrev pub behind_node : List LineRange → List (List LineRange) → Node → List (List LineRange)
behind_node region waiting (node.Split line at) =
    part_up_to region line at ∷ part_from region line (at + 1) ∷ waiting
behind_node region waiting _ = waiting

-- nodes one by one, each with the first of the regions that wait
unfoldable pub walked : List (List LineRange) → List Node → List PlacedNode
walked waiting [] = []
walked [] (node ∷ nodes) = []
walked (region ∷ waiting) (node ∷ nodes) =
    record { node = node; region = region } ∷ walked (behind_node region waiting node) nodes

-- a split names a line of a region
abbrev pub SplitsOne : List LineRange → Node → Type 0
SplitsOne region (node.Split line at) = line < length region
SplitsOne region _ = ⊤

-- ---- splits whose parts are walked

-- what holds of such a split over so many lines
pub record IsOpenSplit (lines : ℕ) (split : OpenSplit) : Type 0 where
  pub there : split.line < lines
  pub low : split.lo ≤ split.at
  pub high : split.at < split.hi
  pub few : split.hi ≤ 1000

-- the region of a split, by that of one of its parts
abbrev pub closed : OpenSplit → List LineRange → List LineRange
closed split region = with_range region split.line split.lo split.hi

-- the region of its upper part
abbrev pub upper_of : OpenSplit → List LineRange → List LineRange
upper_of split region = with_range region split.line (split.at + 1) split.hi

-- the regions of the upper parts that wait, the innermost split first
unfoldable pub waiting_of : List OpenSplit → List LineRange → List (List LineRange)
waiting_of [] region = []
waiting_of (split ∷ splits) region =
    if split.in_lower then upper_of split region ∷ waiting_of splits (closed split region)
    else waiting_of splits (closed split region)

-- ---- first places

-- a place, where there was none before it and it fails
abbrev pub first_place : Option ℕ → Bool → ℕ → Option ℕ
first_place first fails place = option_or first (if fails then Some place else None)

-- the first places with a node more, which stands over a region
abbrev pub noted : ProblemParts → ℤ → FirstFaults → ℕ → PlacedNode → FirstFaults
noted problem cost firsts place at = record {
  empty = first_place firsts.empty (is_not_empty problem at.region at.node) place;
  multiplier = first_place firsts.multiplier (exceeds_costs problem at.region at.node) place;
  bound = first_place firsts.bound (is_below problem cost at.region at.node) place;
  point = first_place firsts.point (is_no_point problem cost at.region at.node) place;
}

-- the first of them by kind
abbrev pub first_by_kind : FirstFaults → Option TreeFault
first_by_kind firsts =
    option_or (option_map (λ place. fault.Empty place) firsts.empty)
    (option_or (option_map (λ place. fault.Multiplier place) firsts.multiplier)
    (option_or (option_map (λ place. fault.Bound place) firsts.bound)
    (option_map (λ place. fault.Point place) firsts.point)))
