-- A problem as branch and bound sees it: its regions, what is said of each, and how one is split.
use Rattle.std.specs.Prelude.{◌≡◌, ℕ, ℤ, ◌<◌, ◌≤ℤ◌, ◌⊎◌, List, [], ◌∷◌, map, filter_map, Option}
use Rattle.std.specs.Prelude.{Some, None, IfSome, ⊤}
use Rattle.std.specs.List.{last_or}

-- an entry: the node that says something of a region, and the solution that is found there
abbrev pub Entry : Type 0 → Type 0 → Type 0
Entry N S = N × Option S

-- the regions R of a problem, the nodes N that say something of them, and its solutions S
pub record BranchingParts (R N S : Type 0) : Type 0 where
  -- the region of all solutions
  pub root : R
  -- what is said of a region beside the best solution so far
  pub look : R → Option S → Entry N S
  -- the two parts of a region by a node that splits it; none by another one
  pub parts : R → N → Option (R × R)
  -- how deep a region is split at most
  pub levels : R → ℕ
  -- what a solution costs
  pub cost : S → ℤ

-- the best solution behind some entries: the last that they found, or else the one before them
abbrev pub best_after : {N S : Type 0} → Option S → List (Entry N S) → Option S
best_after best entries = last_or best (filter_map (λ entry. entry.1) entries)

-- the nodes of entries
abbrev pub nodes_in : {N S : Type 0} → List (Entry N S) → List N
nodes_in entries = map (λ entry. entry.0) entries

-- a cost is no more than that of the best solution, where there is one
abbrev pub AtMost : {S : Type 0} → (S → ℤ) → ℤ → Option S → Type 0
AtMost price cost None = ⊤
AtMost price cost (Some best) = cost ≤ℤ price best

-- no solution of a region costs less than so much
abbrev pub CostsAtLeastIn : {R S : Type 0} → (R → S → Type 0) → (S → ℤ) → R → ℤ → Type 0
CostsAtLeastIn {S = S} LiesIn price region cost =
    (solution : S) → LiesIn region solution → cost ≤ℤ price solution

-- a region is left as one: its node shows each cost up to that of the best solution behind it, and
-- a solution that is found there is one of the problem and costs no more than the best one before
pub record LeavesRegion {R N S : Type 0} (problem : BranchingParts R N S)
    (LiesIn : R → S → Type 0) (Shows : R → N → ℤ → Type 0) (region : R) (best : Option S)
    (entry : Entry N S) : Type 0 where
  pub shows : (cost : ℤ) → AtMost problem.cost cost (best_after best (entry ∷ []))
      → Shows region entry.0 cost
  pub falls : (cost : ℤ) → AtMost problem.cost cost (best_after best (entry ∷ []))
      → AtMost problem.cost cost best
  pub lies : IfSome entry.1 (LiesIn problem.root)

-- a region is split: its parts are less deep, leave no solution out and fit too, and none is found
pub record SplitsRegion {R N S : Type 0} (problem : BranchingParts R N S)
    (LiesIn : R → S → Type 0) (Fits : R → Type 0) (region : R) (lower upper : R) : Type 0 where
  pub cover : (solution : S) → LiesIn region solution
      → LiesIn lower solution ⊎ LiesIn upper solution
  pub lower_fits : Fits lower
  pub upper_fits : Fits upper
  pub lower_less : problem.levels lower < problem.levels region
  pub upper_less : problem.levels upper < problem.levels region

-- The laws of a problem: which solutions lie in a region, which costs a node shows over one, and
-- what fits as a region.
pub record IsBranching {R N S : Type 0} (problem : BranchingParts R N S)
    (LiesIn : R → S → Type 0) (Shows : R → N → ℤ → Type 0) (Fits : R → Type 0) : Type 0 where
  -- the root fits
  pub starts : Fits problem.root
  -- the costs that a node shows are no more than those of the solutions of its region
  pub sound : (region : R) → Fits region → (node : N) (cost : ℤ) → Shows region node cost
      → CostsAtLeastIn LiesIn problem.cost region cost
  -- a region that is split is
  pub splits : (region : R) → Fits region → (node : N) (lower upper : R)
      → problem.parts region node ≡ Some (lower, upper)
      → SplitsRegion problem LiesIn Fits region lower upper
  -- nothing is found where a region is split
  pub passes : (region : R) → Fits region → (best : Option S) (lower upper : R)
      → problem.parts region (problem.look region best).0 ≡ Some (lower, upper)
      → (problem.look region best).1 ≡ None
  -- and else it is left
  pub leaves : (region : R) → Fits region → (best : Option S)
      → problem.parts region (problem.look region best).0 ≡ None
      → LeavesRegion problem LiesIn Shows region best (problem.look region best)
