-- Listings one behind the other.
use Rattle.plan_num.proofs.Common.{◌≡◌, ◌∙◌, ℕ, ◌+◌, List, [], ◌∷◌, ◌++◌, map, Option, None, refl}
use Rattle.plan_num.proofs.Common.{ap, arith}
use Rattle.pesp.specs.Listings.{Listing, in_turn, one_more, unless_found}

abbrev pub nothing : Listing
nothing = record { entries = 0; found = None }

abbrev pub listed : ℕ → Option (List ℕ) → Listing
listed count found = record { entries = count; found = found }

pub unless_one : (first rest : Listing) → unless_found (one_more first) rest ≡ one_more (unless_found first rest)
unless_one first rest = grind arith

pub unless_again : (first more rest : Listing)
    → unless_found (unless_found first more) rest ≡ unless_found first (unless_found more rest)
unless_again first more rest = grind arith

pub none_before : (rest : Listing) → unless_found nothing rest ≡ rest
none_before rest =
    let sum : 0 + rest.entries ≡ rest.entries = omega arith in ap (λ n. listed n rest.found) sum

pub none_behind : (first : Listing) → unless_found first nothing ≡ first
none_behind first = grind arith

pub turns_append : {X : Type 0} (visit : X → Listing) (xs ys : List X)
    → unless_found (in_turn visit xs) (in_turn visit ys) ≡ in_turn visit (xs ++ ys)
unfolding in_turn
turns_append visit [] ys = none_before (in_turn visit ys)
turns_append visit (x ∷ xs) ys =
    unless_again (visit x) (in_turn visit xs) (in_turn visit ys)
    ∙ ap (unless_found (visit x)) (turns_append visit xs ys)

pub turns_map : {X Y : Type 0} (visit : Y → Listing) (child : X → Y) (xs : List X)
    → in_turn (λ x. visit (child x)) xs ≡ in_turn visit (map child xs)
unfolding in_turn
turns_map visit child [] = refl
turns_map visit child (x ∷ xs) = ap (unless_found (visit (child x))) (turns_map visit child xs)

pub first_turn : {X : Type 0} (visit : X → Listing) (x : X) (xs : List X)
    → in_turn visit (x ∷ xs) ≡ unless_found (visit x) (in_turn visit xs)
unfolding in_turn
first_turn visit x xs = refl

pub no_turn : {X : Type 0} (visit : X → Listing) → in_turn visit [] ≡ nothing
unfolding in_turn
no_turn visit = refl
