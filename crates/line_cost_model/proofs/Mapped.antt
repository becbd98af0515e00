-- A list made of another one, item by item.
use Rattle.plan_num.proofs.Common.{◌≡◌, ℕ, ◌+◌, ◌≤◌, List, [], ◌∷◌, ◌++◌, length, map, take}
use Rattle.plan_num.proofs.Common.{slice_get, Some, option_map, ap, ◌∙◌, arith, take_more, take_all}
use Rattle.plan_num.proofs.Common.{length-map, get_or_from_slice_get, slice_get_within}
use Rattle.plan_num.proofs.Common.{slice_get-map}

-- one item more
pub map_more : {X Y : Type 0} (f : X → Y) (xs : List X) (i : ℕ) (y : Y) → option_map f (slice_get xs i) ≡ Some y
    → take (i + 1) (map f xs) ≡ take i (map f xs) ++ y ∷ []
map_more f xs i y is =
    let there : slice_get (map f xs) i ≡ Some y = slice_get-map f xs i ∙ is in
    take_more (map f xs) i y (slice_get_within (map f xs) i y there)
    ∙ ap (λ item. take i (map f xs) ++ item ∷ []) (get_or_from_slice_get (map f xs) i y y there)

-- all items
pub map_whole : {X Y : Type 0} (f : X → Y) (xs : List X) (count i : ℕ) → count ≡ length xs → count ≤ i
    → take i (map f xs) ≡ map f xs
map_whole f xs count i all past = take_all i (map f xs) (omega (arith, all, past, length-map xs f))
