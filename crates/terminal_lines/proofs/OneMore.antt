-- Loops that put one item more behind what is there.
use Rattle.plan_num.proofs.Common.{◌≡◌, ℕ, ◌+◌, ◌<◌, ◌≤◌, List, [], ◌∷◌, ◌++◌, length, take, get_or}
use Rattle.plan_num.proofs.Common.{ap, sym, ◌∙◌, arith, append_assoc, enumerate_from, take_all}
use Rattle.plan_num.proofs.Common.{take_more, get_or-enumerate_from, length-enumerate_from}

-- one numbered item more
pub numbered_more : {X : Type 0} (n : ℕ) (xs : List X) (i place : ℕ) (d x : X) → i < length xs
    → n + i ≡ place → x ≡ get_or xs i d
    → take (i + 1) (enumerate_from n xs) ≡ take i (enumerate_from n xs) ++ (place, x) ∷ []
numbered_more n xs i place d x within at is =
    take_more (enumerate_from n xs) i (0, d) (omega (arith, within, length-enumerate_from n xs))
    ∙ ap (λ one. take i (enumerate_from n xs) ++ one ∷ [])
    (get_or-enumerate_from n xs i (0, d) within ∙ (λ j. (at j, sym is j)))

-- all of them
pub numbered_all : {X : Type 0} (n : ℕ) (xs : List X) (i : ℕ) → length xs ≤ i
    → take i (enumerate_from n xs) ≡ enumerate_from n xs
numbered_all n xs i past =
    take_all i (enumerate_from n xs) (omega (arith, past, length-enumerate_from n xs))

-- what is made of lists one behind another is made of each of them
module _ {X Y : Type 0} (make : List X → List Y)
    (adds : (xs ys : List X) → make (xs ++ ys) ≡ make xs ++ make ys) where
  -- with one item more, its own is behind what was made
  pub made_more : (start : List Y) (before after : List X) (x : X) (old new : List Y)
      → after ≡ before ++ x ∷ [] → old ≡ start ++ make before → new ≡ old ++ make (x ∷ [])
      → new ≡ start ++ make after
  made_more start before after x old new more so_far put = grind (arith, append_assoc)
