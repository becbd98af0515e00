-- The node that reaches furthest, among some that wait.
use Rattle.plan_num.proofs.Common.{◌≡◌, ◌⊎◌, ℕ, ◌+◌, ◌<◌, ◌≤◌, List, [], ◌∷◌, ◌++◌, length, map}
use Rattle.plan_num.proofs.Common.{get_or, HoldsAt, Some, arith, ap, sym, ◌∙◌, range_with_len}
use Rattle.plan_num.proofs.Common.{map-range_with_len_more}
use Rattle.std.proofs.Common.{swap_remove}
use Rattle.std.proofs.lemmas.List.Sorted.{IsPermutation-swap_remove}
use Rattle.canonical_potentials.specs.declared.walk.Waiting.{Waiting}
use Rattle.canonical_potentials.specs.Drops.{DropParts}
use Rattle.link_plans.proofs.Common.{at}
use Rattle.canonical_potentials.specs.Walks.{reach, IsFurthest, IsTakenOut, middle, root_waits, trip_waits}

-- of the first nodes none reaches further than some number, and the best of them so far
pub record IsBestOf (drops : DropParts) (nodes : List Waiting) (count best most : ℕ) : Type 0 where
  pub none : (k : ℕ) (d : Waiting) → k < count → reach drops (get_or nodes k d) ≤ most
  pub at : ((most ≡ 0) × (best ≡ 0))
      ⊎ ((best < count) × ((d : Waiting) → reach drops (get_or nodes best d) ≡ most))

-- the node at such a place is taken out, and the others stay
pub taken_out : (drops : DropParts) (before seen after : List Waiting) (place : ℕ) (node : Waiting) → seen ≡ before
    → place < length before → HoldsAt (IsFurthest drops seen) seen place → node ≡ get_or before place node
    → after ≡ swap_remove before place node → IsTakenOut drops before after node
taken_out drops before seen after place node same within furthest is left = grind (
  arith,
  IsPermutation-swap_remove,
)

-- the left node of one trip more waits
pub waits_more : (u : List ℕ) (trip height : ℕ) (old new : List Waiting)
    → old ≡ root_waits ∷ map (trip_waits u) (range_with_len 0 trip)
    → new ≡ old ++ record { trip = Some trip; height = height } ∷ [] → height ≡ middle + at u trip
    → new ≡ root_waits ∷ map (trip_waits u) (range_with_len 0 (trip + 1))
waits_more u trip height old new old_is new_is height_is = new_is
    ∙ ap (λ nodes. nodes ++ record { trip = Some trip; height = height } ∷ []) old_is
    ∙ ap (λ h. (root_waits ∷ map (trip_waits u) (range_with_len 0 trip)) ++ record {
      trip = Some trip;
      height =
          h;
    } ∷ [])
    height_is
    ∙ ap (λ nodes. root_waits ∷ nodes) (sym (map-range_with_len_more (trip_waits u) 0 trip trip (omega arith)))
