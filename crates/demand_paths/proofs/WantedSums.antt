-- Sums of those amounts whose number passes a test.
use Rattle.plan_num.proofs.Common.{◌≡◌, ℕ, zero, suc, ◌+◌, ◌<◌, ◌≤◌, ◌⊎◌, Bool, true, false, cond}
use Rattle.plan_num.proofs.Common.{List, [], ◌∷◌, length, get_or, set, refl, ap, ◌∙◌, arith, inl}
use Rattle.plan_num.proofs.Common.{inr, drop, replicate, drop_all, length-set, length-replicate}
use Rattle.plan_num.proofs.Common.{get_or-replicate}
use Rattle.std.proofs.Math.Seq.{drop-cons}
use Rattle.demand_paths.specs.Wanted.{sum_where, sum_between, everyone}

-- nobody counts nothing
pub nobody_counts : (b : Bool) → cond {A = ℕ} b 0 0 ≡ 0
nobody_counts true = refl
nobody_counts false = refl

-- ---- one list

module _ (passes : ℕ → Bool) where
  -- one amount is another
  pub sum_where-set : (first i k : ℕ) (amounts : List ℕ) (amount : ℕ) → first + i ≡ k
      → i < length amounts
      → sum_where passes first (set amounts i amount) + cond (passes k) (get_or amounts i 0) 0
      ≡ sum_where passes first amounts + cond (passes k) amount 0
  unfolding sum_where
  sum_where-set first i k [] amount e h = absurd (omega arith)
  sum_where-set first zero k (old ∷ amounts) amount e h = grind arith
  sum_where-set first (suc i) k (old ∷ amounts) amount e h =
      grind (arith, sum_where-set (suc first) i k amounts amount (omega arith) (omega arith))

  -- nothing is in it
  pub sum_where-none : (first : ℕ) (amounts : List ℕ) → ((i k : ℕ) → first + i ≡ k
      → i < length amounts → (get_or amounts i 0 ≡ 0) ⊎ (passes k ≡ false))
      → sum_where passes first amounts ≡ 0
  unfolding sum_where
  sum_where-none first [] none = refl
  sum_where-none first (amount ∷ amounts) none =
      let rest = sum_where-none (suc first) amounts
      (λ i k e h. none (suc i) k (omega arith) (omega arith)) in
      let here : cond (passes first) amount 0 ≡ 0 =
      elim (none 0 first (omega arith) (omega arith)) [
        | inl nobody ↦ ap (λ n. cond (passes first) n 0) nobody ∙ nobody_counts (passes first)
        | inr out ↦ ap (λ b. cond b amount 0) out
      ] in
      omega arith

  -- an amount is no more than all
  pub sum_where-one : (i : ℕ) (amounts : List ℕ) → i < length amounts
      → cond (passes i) (get_or amounts i 0) 0 ≤ sum_where passes 0 amounts
  sum_where-one i amounts h =
      let without = sum_where-set 0 i i amounts 0 (omega arith) h in grind (arith, nobody_counts)

-- those who pass are no more than all
pub sum_where-le : (passes : ℕ → Bool) (first : ℕ) (amounts : List ℕ)
    → sum_where passes first amounts ≤ sum_where everyone first amounts
unfolding sum_where
sum_where-le passes first [] = omega arith
sum_where-le passes first (amount ∷ amounts) = grind (
  arith,
  sum_where-le passes (suc first)
      amounts,
)

-- an amount goes to another place
pub moved : (passes : ℕ → Bool) (amounts : List ℕ) (to before : ℕ) → to < length amounts
    → before < length amounts
    → sum_where passes 0 (set (set amounts to 0) before
    (get_or (set amounts to 0) before 0 + get_or amounts to 0))
    + cond (passes to) (get_or amounts to 0) 0
    ≡ sum_where passes 0 amounts + cond (passes before) (get_or amounts to 0) 0
moved passes amounts to before h there = grind (
  arith,
  get_or,
  length-set,
  sum_where-set,
  nobody_counts,
)

-- ---- lists of them

module _ (passes : ℕ → ℕ → Bool) where
  pub sum_between-set : (first i k : ℕ) (lists : List (List ℕ)) (amounts : List ℕ) → first + i ≡ k
      → i < length lists
      → sum_between passes first (set lists i amounts)
      + sum_where (passes k) 0 (get_or lists i [])
      ≡ sum_between passes first lists + sum_where (passes k) 0 amounts
  unfolding sum_between
  sum_between-set first i k [] amounts e h = absurd (omega arith)
  sum_between-set first zero k (old ∷ lists) amounts e h = grind arith
  sum_between-set first (suc i) k (old ∷ lists) amounts e h =
      grind (arith, sum_between-set (suc first) i k lists amounts (omega arith) (omega arith))

  pub sum_between-none : (first : ℕ) (lists : List (List ℕ))
      → ((i : ℕ) → get_or lists i [] ≡ []) → sum_between passes first lists ≡ 0
  unfolding sum_between sum_where
  sum_between-none first [] none = refl
  sum_between-none first (amounts ∷ lists) none =
      let rest = sum_between-none (suc first) lists (λ i. none (suc i)) in
      let here : sum_where (passes first) 0 amounts ≡ 0 = ap (sum_where (passes first) 0)
      (none 0) in
      omega arith

  -- the first list, and the rest of them
  pub sum_between-drop : (i : ℕ) (lists : List (List ℕ)) → i < length lists
      → sum_between passes i (drop i lists) ≡ sum_where (passes i) 0 (get_or lists i [])
      + sum_between passes (i + 1) (drop (i + 1) lists)
  unfolding sum_between
  sum_between-drop i lists h = grind (arith, drop-cons, get_or)

  pub sum_between-end : (i : ℕ) (lists : List (List ℕ)) → length lists ≤ i
      → sum_between passes i (drop i lists) ≡ 0
  unfolding sum_between
  sum_between-end i lists h = ap (sum_between passes i) (drop_all i lists h)

  -- a list of them is no more than all
  pub sum_between-one : (i : ℕ) (lists : List (List ℕ)) → i < length lists
      → sum_where (passes i) 0 (get_or lists i []) ≤ sum_between passes 0 lists
  unfolding sum_where
  sum_between-one i lists h =
      let without = sum_between-set 0 i i lists [] (omega arith) h in grind arith

pub sum_between-le : (passes : ℕ → ℕ → Bool) (first : ℕ) (lists : List (List ℕ))
    → sum_between passes first lists ≤ sum_between (λ _. everyone) first lists
unfolding sum_between
sum_between-le passes first [] = omega arith
sum_between-le passes first (amounts ∷ lists) =
    grind (arith, sum_where-le, sum_between-le passes (suc first) lists)

-- nobody is in no list, nor in one of zeros
pub sum_where-nil : (passes : ℕ → Bool) → sum_where passes 0 [] ≡ 0
unfolding sum_where
sum_where-nil passes = refl

pub sum_where-zeros : (passes : ℕ → Bool) (n : ℕ) → sum_where passes 0 (replicate n 0) ≡ 0
sum_where-zeros passes n = grind (arith, sum_where-none, get_or-replicate, length-replicate)
