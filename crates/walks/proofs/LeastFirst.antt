-- Walks that go on: the one that is taken out has the least sum.
use Rattle.plan_num.proofs.Common.{◌≡◌, ℕ, ◌≤◌, false, List, [], ◌∷◌, map, All, arith, is_lt}
use Rattle.plan_num.proofs.Common.{nat_cmp, ordering_then, All-nil, All-cons}
use Rattle.std.specs.BinaryHeap.{IsUpperBound}
use Rattle.std.specs.declared.cmp.Ordering.{Ordering}
use Rattle.std.specs.declared.cmp.Reverse.{Reverse}
use Rattle.walks.specs.Frontier.{by_sum}

not_below : (x y : ℕ) (rest : Ordering) → is_lt (ordering_then (nat_cmp y x) rest) ≡ false → x ≤ y
not_below x y rest least = grind arith

-- no sum is below that of a greatest entry
pub least_sum_first : (entry : Reverse (ℕ × ℕ)) (entries : List (Reverse (ℕ × ℕ)))
    → IsUpperBound by_sum entry entries
    → All (λ (walk : ℕ × ℕ). entry.0.0 ≤ walk.0) (map (λ (some : Reverse (ℕ × ℕ)). some.0) entries)
least_sum_first entry [] greatest = All-nil (λ (walk : ℕ × ℕ). entry.0.0 ≤ walk.0)
least_sum_first entry (first ∷ entries) greatest =
    grind (arith, All-cons, not_below, least_sum_first entry entries greatest.1)
