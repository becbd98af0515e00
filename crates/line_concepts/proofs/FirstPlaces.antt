-- The first faults of nodes with their regions, by kind.
use Rattle.std.proofs.Common.{◌≡◌, ℕ, ℤ, ◌+◌, Bool, true, false, if◌then◌else◌, arith, List, []}
use Rattle.std.proofs.Common.{◌∷◌, ◌++◌, slice_get, Option, Some, None, option_map, refl}
use Rattle.std.specs.List.{enumerate_from, flat_map}
use Rattle.std.specs.Option.{option_or}
use Rattle.line_cost_model.specs.declared.range.LineRange.{LineRange}
use Rattle.line_cost_model.specs.Problems.{ProblemParts}
use Rattle.line_concepts.specs.declared.fault.TreeFault.{TreeFault}
use Rattle.line_concepts.specs.declared.fault.TreeFault.TheVariants as fault
use Rattle.line_concepts.specs.declared.first_faults.FirstFaults.{FirstFaults}
use Rattle.line_concepts.specs.declared.node.Node.{Node}
use Rattle.line_concepts.specs.TreeFaults.{faults_by, placed_faults, splits_outside}
use Rattle.line_concepts.specs.TreeFaults.{is_not_empty, exceeds_costs, is_below, is_no_point}
use Rattle.line_concepts.specs.Trees.{PlacedNode}
use Rattle.line_concepts.specs.Walks.{first_by_kind, first_place, noted}

-- ---- the first place from one on

unfoldable pub place_of : (PlacedNode → Bool) → ℕ → List PlacedNode → Option ℕ
place_of test place [] = None
place_of test place (at ∷ rest) = if test at then Some place else place_of test (place + 1) rest

-- the test of a region and the node there
abbrev pub at_node : (List LineRange → Node → Bool) → PlacedNode → Bool
at_node test at = test at.region at.node

pub first_of : {X : Type 0} (xs ys : List X)
    → slice_get (xs ++ ys) 0 ≡ option_or (slice_get xs 0) (slice_get ys 0)
first_of [] ys = refl
first_of (x ∷ xs) ys = refl

first_from : (test : List LineRange → Node → Bool) (fault : ℕ → TreeFault) (place : ℕ)
    (placed : List PlacedNode)
    → slice_get (flat_map (λ at. if test at.1.region at.1.node then fault at.0 ∷ [] else [])
    (enumerate_from place placed)) 0 ≡ option_map fault (place_of (at_node test) place placed)
unfolding place_of
first_from test fault place [] = refl
first_from test fault place (at ∷ rest) = grind (
  arith,
  slice_get,
  option_map,
  first_from test fault
      (place + 1) rest,
)

-- the first fault of a kind is at the first place that fails
first_by : (test : List LineRange → Node → Bool) (fault : ℕ → TreeFault) (placed : List PlacedNode)
    → slice_get (faults_by test fault placed) 0
    ≡ option_map fault (place_of (at_node test) 0 placed)
first_by test fault placed = first_from test fault 0 placed

-- ---- node by node

-- the first places of nodes from a place on, behind those so far
unfoldable pub judged : ProblemParts → ℤ → FirstFaults → ℕ → List PlacedNode → FirstFaults
judged problem cost firsts place [] = firsts
judged problem cost firsts place (at ∷ rest) =
    judged problem cost (noted problem cost firsts place at) (place + 1) rest

or_later : (first : Option ℕ) (fails : Bool) (place : ℕ) (later : Option ℕ)
    → option_or (first_place first fails place) later
    ≡ option_or first (if fails then Some place else later)
or_later (Some first) fails place later = refl
or_later None true place later = refl
or_later None false place later = refl

-- no place so far
abbrev pub no_place : FirstFaults
no_place = record { empty = None; multiplier = None; bound = None; point = None }

-- the first of all faults
abbrev pub first_of_all : Option ℕ → FirstFaults → Option TreeFault
first_of_all split firsts =
    option_or (option_map (λ place. fault.Split place) split) (first_by_kind firsts)

module _ (problem : ProblemParts) (cost : ℤ) where
  abbrev with_later : FirstFaults → ℕ → List PlacedNode → FirstFaults
  with_later firsts place placed = record {
    empty = option_or firsts.empty (place_of (at_node (is_not_empty problem)) place placed);
    multiplier = option_or firsts.multiplier (place_of
        (at_node (exceeds_costs problem)) place placed);
    bound = option_or firsts.bound (place_of (at_node (is_below problem cost)) place placed);
    point = option_or firsts.point (place_of (at_node (is_no_point problem cost)) place placed);
  }

  judged_is : (placed : List PlacedNode) (firsts : FirstFaults) (place : ℕ)
      → judged problem cost firsts place placed ≡ with_later firsts place placed
  unfolding judged place_of
  judged_is [] firsts place = grind arith
  judged_is (at ∷ rest) firsts place =
      grind (arith, or_later, judged_is rest (noted problem cost firsts place at) (place + 1))

  leaning : (a b c d e : Option TreeFault) → option_or (option_or (option_or (option_or a b) c) d) e
      ≡ option_or a (option_or b (option_or c (option_or d e)))
  leaning a b c d e = grind arith

  five : (a b c d e : List TreeFault) (p q r s t : Option TreeFault) → slice_get a 0 ≡ p
      → slice_get b 0 ≡ q
      → slice_get c 0 ≡ r → slice_get d 0 ≡ s → slice_get e 0 ≡ t
      → slice_get (a ++ b ++ c ++ d ++ e) 0 ≡ option_or p
      (option_or q (option_or r (option_or s t)))
  five a b c d e p q r s t first second third fourth fifth =
      grind (arith, first_of, slice_get, leaning)

  pub first_is : (placed : List PlacedNode) → slice_get (placed_faults problem cost placed) 0
      ≡ first_of_all (place_of (at_node splits_outside) 0 placed)
      (judged problem cost no_place 0 placed)
  first_is placed = grind (arith, five, first_by, judged_is)
