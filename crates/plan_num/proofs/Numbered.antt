-- What holds of all parts, of numbered things, and of their numbers.
use Rattle.plan_num.proofs.Common.{◌≡◌, ℕ, ◌+◌, ◌<◌, ◌≤◌, arith, All, List, [], ◌∷◌, length, map}
use Rattle.plan_num.proofs.Common.{get_or, refl, range_with_len, enumerate_from, All-map}
use Rattle.plan_num.proofs.Common.{length-range_with_len, get_or-range_with_len}
use Rattle.plan_num.proofs.Common.{length-enumerate_from, get_or-enumerate_from}

-- what holds of each number from one on
pub all_numbers : (P : ℕ → Type 0) (a n : ℕ) → ((j : ℕ) → a ≤ j → j < a + n → P j)
    → All P (range_with_len a n)
all_numbers P a n each = grind (arith, length-range_with_len, get_or-range_with_len)

-- what holds of each thing with its number
pub all_numbered : {X Y : Type 0} (P : X → Type 0) (Q : Y → Type 0) (f : ℕ × X → Y) (xs : List X)
    → ((n : ℕ) (x : X) → 1 ≤ n → n ≤ length xs → P x → Q (f (n, x))) → All P xs
    → All Q (map f (enumerate_from 1 xs))
all_numbered P Q f xs step all =
    All-map Q f (enumerate_from 1 xs) (λ k d h.
    let within : k < length xs = omega (arith, h, length-enumerate_from 1 xs) in grind (
      arith,
      get_or-enumerate_from,
      get_or,
    ))

-- the numbers are those in order
pub numbers_are : {X Y : Type 0} (id : Y → ℕ) (f : ℕ × X → Y)
    → ((n : ℕ) (x : X) → id (f (n, x)) ≡ n) → (a : ℕ) (xs : List X)
    → map id (map f (enumerate_from a xs)) ≡ range_with_len a (length xs)
numbers_are id f same a [] = refl
numbers_are id f same a (x ∷ xs) = grind (arith, numbers_are id f same (a + 1) xs)
