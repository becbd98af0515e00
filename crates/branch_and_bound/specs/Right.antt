-- What is right about a whole listing: its last solution is best, and its nodes prove it.
use Rattle.std.specs.Prelude.{◌≡◌, ℤ, List, Option, Some, None, IfSome}
use Rattle.branch_and_bound.specs.Branchings.{BranchingParts, AtMost, CostsAtLeastIn}
use Rattle.branch_and_bound.specs.Trees.{NodeTree, leaf, fork, preorder}

-- there are two parts, of which something holds
abbrev pub AreParts : {R : Type 0} → (R → R → Type 0) → Option (R × R) → Type 0
AreParts P None = ⊥
AreParts P (Some two) = P two.0 two.1

-- a tree shows a cost over a region: its leaves do, and each fork splits its region
unfoldable pub TreeShows : {R N S : Type 0} → BranchingParts R N S → (R → N → ℤ → Type 0) → ℤ
    → NodeTree N → R → Type 0
TreeShows problem Shows cost (leaf node) region = Shows region node cost
TreeShows problem Shows cost (fork node one two) region =
    AreParts (λ lower upper. TreeShows problem Shows cost one lower
    × TreeShows problem Shows cost two upper) (problem.parts region node)

-- nodes certify a cost: they are the preorder of a tree that shows it over the root
pub record Certifies {R N S : Type 0} (problem : BranchingParts R N S)
    (Shows : R → N → ℤ → Type 0) (cost : ℤ) (nodes : List N) : Type 0 where
  pub tree : NodeTree N
  pub whole : preorder tree ≡ nodes
  pub shows : TreeShows problem Shows cost tree problem.root

-- a solution is best: it is one, and none costs less
pub record IsBest {R N S : Type 0} (problem : BranchingParts R N S) (LiesIn : R → S → Type 0)
    (solution : S) : Type 0 where
  pub lies : LiesIn problem.root solution
  pub least : CostsAtLeastIn LiesIn problem.cost problem.root (problem.cost solution)

-- what a whole search found is best and its nodes certify this; where it found none there is none,
-- which they certify as well
pub record IsRight {R N S : Type 0} (problem : BranchingParts R N S) (LiesIn : R → S → Type 0)
    (Shows : R → N → ℤ → Type 0) (best : Option S) (nodes : List N) : Type 0 where
  pub best_is : IfSome best (IsBest problem LiesIn)
  pub none_is : best ≡ None → (solution : S) → LiesIn problem.root solution → ⊥
  pub certified : (cost : ℤ) → AtMost problem.cost cost best
      → Certifies problem Shows cost nodes
