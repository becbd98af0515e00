-- Loops that count from 1, or go over a list, and append what each number or each item gives.
use Rattle.std.proofs.Common.{◌≡◌, ℕ, zero, suc, ◌+◌, ◌-◌, ◌≤◌, ◌<◌, List, [], ◌∷◌, ◌++◌, map, take}
use Rattle.std.proofs.Common.{length, get_or, sym, ◌∙◌, ap, append_assoc, arith, length-take-le}
use Rattle.std.specs.List.{flat_map, range_with_len, enumerate_from}
use Rattle.std.proofs.lemmas.List.{take_more, flat_map_more, map-append}
use Rattle.demo_dataset.specs.Grid.{one_to}

-- numbers one after the other, and one more
range_more : (first count : ℕ) →
    range_with_len first (suc count) ≡ range_with_len first count ++ (first + count) ∷ []
range_more first zero = ap (λ n. n ∷ []) (omega arith)
range_more first (suc count) = grind (arith, range_more (first + 1) count)

-- the numbers up to one are those below it, and it
one_more : (i last : ℕ) → 1 ≤ i → last ≡ i → one_to last ≡ one_to (i - 1) ++ i ∷ []
one_more i last some here =
    ap one_to (let e : last ≡ suc (i - 1) = omega arith in e)
    ∙ range_more 1 (i - 1)
    ∙ ap (λ n. one_to (i - 1) ++ n ∷ []) (let e : 1 + (i - 1) ≡ i = omega arith in e)

-- an item for each number up to one, from those below it
pub pushed : {X : Type 0} (f : ℕ → X) (i last : ℕ) (old now new : List X) → 1 ≤ i → last ≡ i →
    now ≡ old ++ map f (one_to (i - 1)) → new ≡ now ++ f i ∷ [] → new ≡ old ++ map f (one_to last)
pushed f i last old now new some here told step = grind (arith, append_assoc, map-append, one_more)

-- items for each number up to one, from those below it
pub appended : {X : Type 0} (f : ℕ → List X) (i last : ℕ) (old now new : List X) → 1 ≤ i →
    last ≡ i → now ≡ old ++ flat_map f (one_to (i - 1)) → new ≡ now ++ f i →
    new ≡ old ++ flat_map f (one_to last)
appended f i last old now new some here told step = grind (arith, flat_map_more, one_more)

-- what is told of the numbers below the first one that is too large is told of all
pub ended : {X : Type 0} (told_of : List ℕ → List X) (i last : ℕ) (now : List X) → i ≡ last + 1 →
    now ≡ told_of (one_to (i - 1)) → now ≡ told_of (one_to last)
ended told_of i last now past told =
    told ∙ ap (λ n. told_of (one_to n)) (let e : i - 1 ≡ last = omega arith in e)

-- numbered items, and one more
number_more : {X : Type 0} (first : ℕ) (xs : List X) (x : X) →
    enumerate_from first (xs ++ x ∷ []) ≡ enumerate_from first xs ++ (first + length xs, x) ∷ []
number_more first [] x = ap (λ n. (n, x) ∷ []) (omega arith)
number_more first (y ∷ ys) x = grind (arith, number_more (first + 1) ys x)

-- items for one item more of a list, which is numbered from 1 on
pub numbered : {X Y : Type 0} (f : ℕ × X → List Y) (xs : List X) (i : ℕ) (d : X)
    (old now new : List Y) → i < length xs →
    now ≡ old ++ flat_map f (enumerate_from 1 (take i xs)) →
    new ≡ now ++ f (i + 1, get_or xs i d) →
    new ≡ old ++ flat_map f (enumerate_from 1 (take (i + 1) xs))
numbered {X} f xs i d old now new within told step =
    let x : X = get_or xs i d in
    let place : 1 + length (take i xs) ≡ i + 1 = omega (arith, length-take-le i xs) in
    step ∙ ap (λ ys. ys ++ f (i + 1, x)) told
    ∙ flat_map_more f old (enumerate_from 1 (take i xs)) (i + 1, x)
    ∙ ap (λ ys. old ++ flat_map f ys)
    (ap (λ n. enumerate_from 1 (take i xs) ++ (n, x) ∷ []) (sym place)
    ∙ sym (number_more 1 (take i xs) x)
    ∙ ap (enumerate_from 1) (sym (take_more xs i d within)))
