-- What is found in a list.
use Rattle.plan_num.proofs.Common.{◌≡◌, ℕ, ◌+◌, ◌||◌, Bool, true, false, cond, List, [], ◌∷◌, map}
use Rattle.plan_num.proofs.Common.{All, refl, ap, sym, ◌∙◌, arith, Some, IfSome, option_map}
use Rattle.plan_num.proofs.Common.{is_some, position, find, list_any, position_from, cases_Bool}
use Rattle.plan_num.proofs.Common.{position_from-zero, All-head, All-tail}

-- a test passes on an element of a mapped list where it passes behind the map
pub any_mapped : {X Y : Type 0} (p : Y → Bool) (f : X → Y) (xs : List X) → list_any p (map f xs) ≡ list_any (λ x. p (f x)) xs
any_mapped p f [] = refl
any_mapped p f (x ∷ xs) = ap (λ b. p (f x) || b) (any_mapped p f xs)

any_from : {X : Type 0} (p : X → Bool) (i : ℕ) (xs : List X) → list_any p xs ≡ is_some (position_from p i xs)
any_from p i [] = refl
any_from p i (x ∷ xs) = elim (p x) as (λ b. (b || list_any p xs) ≡ is_some (cond b (Some i) (position_from p (i + 1) xs))) [ true ↦ refl | false ↦ any_from p (i + 1) xs ]

-- an item that has a place is there
pub any_is : {X : Type 0} (p : X → Bool) (xs : List X) → list_any p xs ≡ is_some (position p xs)
any_is p xs = any_from p 0 xs ∙ ap is_some (sym (position_from-zero p xs))

-- an item that is found is there
pub any_found : {X Y : Type 0} (p : X → Bool) (f : X → Y) (xs : List X) → is_some (option_map f (find p xs)) ≡ list_any p xs
any_found p f [] = refl
any_found p f (x ∷ xs) = elim (p x) as (λ b. is_some (option_map f (cond b (Some x) (find p xs))) ≡ (b || list_any p xs)) [ true ↦ refl | false ↦ any_found p f xs ]

-- what holds of each thing holds of one that is found
pub found_has : {X : Type 0} (P : X → Type 0) (p : X → Bool) (xs : List X) → All P xs
    → IfSome (find p xs) P
found_has P p [] all = tt
found_has P p (x ∷ xs) all =
    grind (arith, cases_Bool, All-head, All-tail, found_has P p xs (All-tail P x xs all))
