-- What is said of a region names lines and edges that are there.
use Rattle.plan_num.proofs.Common.{◌≡◌, ℕ, ◌+◌, ◌≤◌, ◌<◌, List, [], ◌∷◌, length, filter_map, fold}
use Rattle.plan_num.proofs.Common.{slice_get, arith, Option, Some, None, option_map, IfSome, All}
use Rattle.plan_num.proofs.Common.{sym, subst, nat_le, All-nil, All-append, enumerate_from}
use Rattle.line_cost_model.specs.declared.edge.BoundedEdge.{BoundedEdge}
use Rattle.line_cost_model.specs.declared.multipliers.Multiplier.{Multiplier}
use Rattle.line_cost_model.specs.declared.range.LineRange.{LineRange}
use Rattle.line_cost_model.specs.declared.side.Side.{Side}
use Rattle.line_cost_model.proofs.Common.{CostedLine, ProblemParts, next_multiplier, unless_zero}
use Rattle.line_cost_model.proofs.Common.{with_next, empty_side}
use Rattle.line_cost_model.specs.DualBounds.{multipliers_of}
use Rattle.line_cost_model.specs.Regions.{empty_edge}
use Rattle.line_concepts.specs.declared.node.Node.TheVariants as node
use Rattle.line_concepts.specs.Listings.{as_bound, first_open}
use Rattle.line_concepts.proofs.Lengths.{IsOpenAt, first_open_is}

-- ---- multipliers

abbrev Names : ℕ → Multiplier → Type 0
Names edges multiplier = multiplier.edge < edges

one_names : (edges edge amount : ℕ) → edge < edges → All (Names edges) (unless_zero edge amount)
one_names edges edge amount there = grind arith

all_name : (problem : ProblemParts) (region : List LineRange) (count n : ℕ) (edges : List BoundedEdge)
    (before : List Multiplier) → n + length edges ≤ count → All (Names count) before
    → All (Names count) (fold (with_next problem region) before (enumerate_from n edges))
all_name problem region count n [] before few all = all
all_name problem region count n (edge ∷ edges) before few all =
    grind (
      arith,
      All-append,
      one_names,
      all_name problem region count (n + 1) edges (with_next problem region before (n, edge))
          (omega (arith, few))
          (All-append (Names count) before _ all
          (one_names count n (next_multiplier problem region before (n, edge))
          (omega (arith, few)))),
    )

-- those of a region name edges that are there
pub multipliers_name : (problem : ProblemParts) (region : List LineRange)
    → All (λ multiplier. multiplier.edge < length problem.edges) (multipliers_of problem region)
unfolding multipliers_of
multipliers_name problem region = grind (arith, all_name, All-nil)

-- ---- empty edges

empty_names : (lines : List CostedLine) (region : List LineRange) (count n : ℕ)
    (edges : List BoundedEdge) → n + length edges ≤ count
    → IfSome {T = ℕ × Side} (slice_get (filter_map
    (λ at. option_map (λ side. (at.0, side)) (empty_side lines region at.0 at.1))
    (enumerate_from n edges)) 0) (λ at. at.0 < count)
empty_names lines region count n [] few = tt
empty_names lines region count n (edge ∷ edges) few =
    grind (
      arith,
      slice_get,
      option_map,
      filter_map,
      empty_names lines region count (n + 1) edges (omega (arith, few)),
    )

-- the first empty edge of a region is there
pub empty_there : (problem : ProblemParts) (region : List LineRange)
    → IfSome {T = ℕ × Side} (empty_edge problem region) (λ at. at.0 < length problem.edges)
unfolding empty_edge
empty_there problem region =
    empty_names problem.lines region (length problem.edges) 0 problem.edges (omega arith)

-- ---- bounds and splits

named_by : (problem : ProblemParts) (region : List LineRange) (best : Option (List ℕ))
    (multipliers : List Multiplier)
    → Some (node.Bound multipliers) ≡ as_bound problem region best
    → multipliers ≡ multipliers_of problem region
named_by problem region None multipliers is = absurd (cc)
named_by problem region (Some best) multipliers is = grind (arith, nat_le)

-- the multipliers that are said of a region
pub bound_names : (problem : ProblemParts) (region : List LineRange) (best : Option (List ℕ))
    (multipliers : List Multiplier)
    → Some (node.Bound multipliers) ≡ as_bound problem region best
    → All (λ multiplier. multiplier.edge < length problem.edges) multipliers
bound_names problem region best multipliers is = grind (arith, named_by, multipliers_name)

-- the line that is split
pub split_names : (problem : ProblemParts) (region : List LineRange) (line : ℕ)
    → Some line ≡ first_open problem region → line < length region
split_names problem region line is =
    (subst (λ found. IfSome found (IsOpenAt region)) (sym is) (first_open_is problem region)).0

pub edge_names : (problem : ProblemParts) (region : List LineRange) (edge : ℕ) (side : Side)
    → Some (edge, side) ≡ empty_edge problem region → edge < length problem.edges
edge_names problem region edge side is =
    subst (λ found. IfSome {T = ℕ × Side} found (λ at. at.0 < length problem.edges)) (sym is)
    (empty_there problem region)
