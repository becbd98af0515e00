-- Lists that tell one thing of each place.
use Rattle.plan_num.proofs.Common.{◌≡◌, ◌∙◌, ℕ, ◌+◌, ◌<◌, ◌++◌, append_assoc, List, [], ◌∷◌, map}
use Rattle.plan_num.proofs.Common.{sym, arith, range_with_len, ext_get_or}
use Rattle.plan_num.proofs.Common.{get_or-map-range_with_len, length-map-range_with_len}
use Rattle.plan_num.proofs.Common.{map-range_with_len_more}

-- one item more is done, and the others are left
pub moved : {X : Type 0} (done new left rest all : List X) (x y : X) → left ≡ x ∷ rest
    → new ≡ done ++ y ∷ [] → y ≡ x → done ++ left ≡ all → new ++ rest ≡ all
moved done new left rest all x y first is same told = grind (arith, append_assoc)

-- what is told of each place in two ways
pub told_alike : {X : Type 0} (f g : ℕ → X) (n : ℕ) → ((k : ℕ) → k < n → f k ≡ g k)
    → map f (range_with_len 0 n) ≡ map g (range_with_len 0 n)
told_alike f g n same =
    let long = length-map-range_with_len f 0 n in
    ext_get_or (f 0) (map f (range_with_len 0 n)) (map g (range_with_len 0 n))
    (long ∙ sym (length-map-range_with_len g 0 n))
    (λ k within.
    let inside : k < n = omega (arith, within, long) in grind (arith, get_or-map-range_with_len))

-- what is pushed behind what is told of the first places
pub told_more : {X : Type 0} (f : ℕ → X) (i : ℕ) (old new : List X) (one : X) → new ≡ old ++ one ∷ []
    → old ≡ map f (range_with_len 0 i) → one ≡ f i → new ≡ map f (range_with_len 0 (i + 1))
told_more f i old new one is told same =
    is ∙ (λ j. told j ++ same j ∷ []) ∙ sym (map-range_with_len_more f 0 i i (omega arith))
