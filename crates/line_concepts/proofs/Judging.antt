-- The loop over the nodes of a tree: what is known before a node, after it, and at the end.
use Rattle.plan_num.proofs.Common.{◌≡◌, ℕ, ℤ, ◌+◌, ◌≤◌, ◌∙◌, Bool, true, false, if◌then◌else◌, List}
use Rattle.plan_num.proofs.Common.{[], ◌∷◌, length, drop, slice_get, Some, All, refl, ap, sym}
use Rattle.plan_num.proofs.Common.{arith, drop_all, length-map}
use Rattle.line_cost_model.specs.declared.range.LineRange.{LineRange}
use Rattle.line_cost_model.proofs.Common.{ProblemParts, most_of, root_of, holds_at}
use Rattle.line_concepts.specs.declared.fault.TreeFault.TheVariants as fault
use Rattle.line_concepts.specs.declared.first_faults.FirstFaults.{FirstFaults}
use Rattle.line_concepts.specs.declared.node.Node.{Node}
use Rattle.line_concepts.specs.TreeFaults.{placed_faults, splits_outside}
use Rattle.line_concepts.specs.Trees.{PlacedNode}
use Rattle.line_concepts.specs.declared.node.Node.TheVariants as node
use Rattle.line_concepts.specs.Nodes.{NamesWhatIs}
use Rattle.line_concepts.specs.Walks.{SplitsOne, WalkedRegions, behind_node, first_by_kind, noted}
use Rattle.line_concepts.specs.Walks.{walked}
use Rattle.line_concepts.proofs.FirstPlaces.{at_node, first_is, first_of_all, judged, no_place}
use Rattle.line_concepts.proofs.FirstPlaces.{place_of}
use Rattle.line_concepts.proofs.Shapes.{drop_node}

-- all nodes with their regions
abbrev pub all_placed : ProblemParts → List Node → List PlacedNode
all_placed problem nodes = walked (root_of problem ∷ []) nodes

-- the first split outside a range, and the first places of the other kinds, are those of the nodes
-- that are left, over the regions that wait, behind the first places so far
pub record IsJudged (problem : ProblemParts) (cost : ℤ) (nodes : List Node) (firsts : FirstFaults)
    (place : ℕ)
    (regions : List (List LineRange)) : Type 0 where
  pub splits : place_of (at_node splits_outside) 0 (all_placed problem nodes)
      ≡ place_of (at_node splits_outside) place (walked regions (drop place nodes))
  pub others : judged problem cost no_place 0 (all_placed problem nodes)
      ≡ judged problem cost firsts place (walked regions (drop place nodes))

pub judged_none : (problem : ProblemParts) (cost : ℤ) (nodes : List Node) (firsts : FirstFaults)
    (walk : WalkedRegions) → firsts ≡ no_place
    → walk ≡ record { problem = problem; region = root_of problem; waiting = [] }
    → IsJudged problem cost nodes firsts 0 (walk.region ∷ walk.waiting)
judged_none problem cost nodes firsts walk none at_root =
    rw (none, at_root) (record { splits = refl; others = refl })

no_region : (nodes : List Node) → walked [] nodes ≡ []
unfolding walked
no_region [] = refl
no_region (node ∷ nodes) = refl

module _ (problem : ProblemParts) (cost : ℤ) (nodes : List Node) (firsts : FirstFaults) (place : ℕ)
    (region : List LineRange) (waiting : List (List LineRange)) (node : Node)
    (there : slice_get nodes place ≡ Some node)
    (so_far : IsJudged problem cost nodes firsts place (region ∷ waiting)) where
  abbrev here : PlacedNode
  here = record { node = node; region = region }

  abbrev rest : List PlacedNode
  rest = walked (behind_node region waiting node) (drop (place + 1) nodes)

  walked_node : walked (region ∷ waiting) (drop place nodes) ≡ here ∷ rest
  unfolding walked
  walked_node = ap (walked (region ∷ waiting)) (drop_node nodes place node there)

  next_splits : (outside : Bool) → splits_outside region node ≡ outside
      → place_of (at_node splits_outside) 0 (all_placed problem nodes)
      ≡ (if outside then Some place else place_of (at_node splits_outside) (place + 1) rest)
  unfolding place_of
  next_splits outside is = grind (arith, place_of, at_node, walked_node)

  next_others : judged problem cost no_place 0 (all_placed problem nodes)
      ≡ judged problem cost (noted problem cost firsts place here) (place + 1) rest
  unfolding judged
  next_others = so_far.others ∙ ap (judged problem cost firsts place) walked_node

  -- a split outside a range is the first fault
  pub split_is_first : splits_outside region node ≡ true
      → Some (fault.Split place) ≡ slice_get (placed_faults problem cost (all_placed problem nodes))
      0
  split_is_first outside = sym (first_is problem cost (all_placed problem nodes)
      ∙ ap (λ split. first_of_all split (judged problem cost no_place 0 (all_placed problem nodes)))
      (next_splits true outside))

  -- another node
  pub judged_more : (after : FirstFaults) (regions : List (List LineRange))
      → splits_outside region node ≡ false → after ≡ noted problem cost firsts place here
      → regions ≡ behind_node region waiting node
      → IsJudged problem cost nodes after (place + 1) regions
  judged_more after regions inside after_is regions_are =
      rw (after_is, regions_are)
      (record { splits = next_splits false inside; others = next_others })

-- no node is left that has a region
finished : (problem : ProblemParts) (cost : ℤ) (nodes : List Node) (firsts : FirstFaults)
    (place : ℕ)
    (regions : List (List LineRange)) → walked regions (drop place nodes) ≡ []
    → IsJudged problem cost nodes firsts place regions
    → first_by_kind firsts ≡ slice_get (placed_faults problem cost (all_placed problem nodes)) 0
unfolding place_of judged
finished problem cost nodes firsts place regions none is_judged =
    grind (arith, first_is, first_of_all, judged, no_place, place_of, at_node)

pub judged_last : (problem : ProblemParts) (cost : ℤ) (nodes : List Node) (firsts : FirstFaults)
    (place : ℕ)
    → IsJudged problem cost nodes firsts place []
    → first_by_kind firsts ≡ slice_get (placed_faults problem cost (all_placed problem nodes)) 0
judged_last problem cost nodes firsts place is_judged =
    finished problem cost nodes firsts place [] (no_region (drop place nodes)) is_judged

no_node : (regions : List (List LineRange)) → walked regions [] ≡ []
unfolding walked
no_node [] = refl
no_node (region ∷ regions) = refl

pub judged_all : (problem : ProblemParts) (cost : ℤ) (nodes : List Node) (firsts : FirstFaults)
    (place : ℕ)
    (regions : List (List LineRange)) → length nodes ≤ place
    → IsJudged problem cost nodes firsts place regions
    → first_by_kind firsts ≡ slice_get (placed_faults problem cost (all_placed problem nodes)) 0
judged_all problem cost nodes firsts place regions past is_judged =
    grind (arith, finished, drop_all, no_node)

-- ---- what a node names

-- a node names what is there, and each line has a range
pub splits_one : (problem : ProblemParts) (region : List LineRange) (node : Node)
    → length region ≡ length problem.lines → NamesWhatIs problem node → SplitsOne region node
splits_one problem region (node.Split line at) same names = omega (arith, names, same)
splits_one problem region (node.Empty edge side) same names = tt
splits_one problem region (node.Bound multipliers) same names = tt
splits_one problem region node.Point same names = tt

pub names_at : (problem : ProblemParts) (nodes : List Node) (place : ℕ) (node : Node)
    → All (NamesWhatIs problem) nodes → slice_get nodes place ≡ Some node → NamesWhatIs problem node
names_at problem nodes place node all there = holds_at
    (NamesWhatIs problem) nodes place node all there

pub each_has : (problem : ProblemParts) (walk : WalkedRegions)
    → walk ≡ record { problem = problem; region = root_of problem; waiting = [] }
    → length walk.region ≡ length problem.lines
each_has problem walk is = ap (λ (walk : WalkedRegions). length walk.region) is
    ∙ length-map problem.lines (λ line. record { lo = 0; hi = most_of problem.edges line })
