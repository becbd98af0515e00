-- The latest of some times, and the least of some ids.
use Rattle.plan_num.proofs.Common.{◌≡◌, ℕ, ◌≤◌, suc, List, [], ◌∷◌, arith, refl, ◌⊎◌, inl, All}
use Rattle.plan_num.proofs.Common.{Contains, fold, All-cons, All-nil}
use Rattle.propagation.specs.LeastTimes.{later, latest}
use Rattle.propagation.specs.Reasons.{lesser}

-- a later one of two is one of them, and no earlier than both
pub record IsLater (a b c : ℕ) : Type 0 where
  pub one : (c ≡ a) ⊎ (c ≡ b)
  pub first : a ≤ c
  pub second : b ≤ c

pub later_is : (a b : ℕ) → IsLater a b (later a b)
later_is a b = grind arith

pub lesser_one : (a b : ℕ) → (lesser a b ≡ a) ⊎ (lesser a b ≡ b)
lesser_one a b = grind arith

pub shifted : {X : Type 0} (y : X) (ys : List X) (x : X) → Contains ys x → Contains (y ∷ ys) x
shifted y ys x there = (suc there.0, omega (arith, there.1), there.2)

-- the latest is no earlier than each of them
pub latest_bounds : (a : ℕ) (xs : List ℕ) → (a ≤ latest a xs) × All (λ x. x ≤ latest a xs) xs
latest_bounds a [] = (omega arith, All-nil (λ x. x ≤ a))
latest_bounds a (x ∷ xs) = grind (arith, later_is, All-cons, latest_bounds (later a x) xs)

reached_by : (f : ℕ → ℕ → ℕ) → ((a b : ℕ) → (f a b ≡ a) ⊎ (f a b ≡ b)) → (a : ℕ) (xs : List ℕ)
    → (fold f a xs ≡ a) ⊎ Contains xs (fold f a xs)
reached_by f one a [] = inl refl
reached_by f one a (x ∷ xs) = grind (arith, shifted, reached_by f one (f a x) xs)

-- and one of them; so is a least one
pub latest_reached : (a : ℕ) (xs : List ℕ) → (latest a xs ≡ a) ⊎ Contains xs (latest a xs)
latest_reached a xs = reached_by later (λ a b. (later_is a b).one) a xs

pub lesser_reached : (a : ℕ) (xs : List ℕ) → (fold lesser a xs ≡ a) ⊎ Contains xs (fold lesser a xs)
lesser_reached a xs = reached_by lesser lesser_one a xs
