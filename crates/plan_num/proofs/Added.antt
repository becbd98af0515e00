-- Lists to which parts are added one by one.
use Rattle.std.proofs.Common.{◌≡◌, ℕ, ◌+◌, ◌*◌, ◌<◌, zero, suc, arith, List, [], ◌∷◌, ◌++◌, length}
use Rattle.std.proofs.Common.{map, take, get_or, ap, sym, ◌∙◌}
use Rattle.std.specs.List.{flat_map, range_with_len, enumerate_from}
use Rattle.std.proofs.lemmas.List.{append_assoc, map-id, flat_map_more, length-append, take_more, length-take-le}
use Rattle.std.proofs.lemmas.List.FromFn.{map-range_with_len_more}

-- one number more
range_more : (a n j : ℕ) → a + n ≡ j → range_with_len a (n + 1) ≡ range_with_len a n ++ j ∷ []
range_more a n j e =
    sym (map-id (range_with_len a (n + 1))) ∙ map-range_with_len_more (λ (x : ℕ). x) a n j e
    ∙ ap (λ xs. xs ++ j ∷ []) (map-id (range_with_len a n))

module _ {X : Type 0} (old now after : List X) where
  -- what a number gives is added behind that of the numbers from 1 on before it
  pub added_part : (f : ℕ → List X) (n j : ℕ) → 1 + n ≡ j
      → now ≡ old ++ flat_map f (range_with_len 1 n) → after ≡ now ++ f j
      → after ≡ old ++ flat_map f (range_with_len 1 (n + 1))
  added_part f n j e so_far more = grind (arith, flat_map_more, range_more)

  -- the same for one thing each, of the numbers from 0 on
  pub added_one : (f : ℕ → X) (n : ℕ) (x : X) → x ≡ f n → now ≡ old ++ map f (range_with_len 0 n)
      → after ≡ now ++ x ∷ [] → after ≡ old ++ map f (range_with_len 0 (n + 1))
  added_one f n x is so_far more = grind (arith, append_assoc, map-range_with_len_more)

-- one thing more with its number
numbered_more : {X Y : Type 0} (f : ℕ × X → Y) (a : ℕ) (xs : List X) (x : X) (j : ℕ)
    → a + length xs ≡ j
    → map f (enumerate_from a (xs ++ x ∷ [])) ≡ map f (enumerate_from a xs) ++ f (j, x) ∷ []
numbered_more f a [] x j e =
    let same : a ≡ j = omega (arith, e) in ap (λ n. f (n, x) ∷ []) same
numbered_more f a (y ∷ xs) x j e =
    ap (λ rest. f (a, y) ∷ rest) (numbered_more f (a + 1) xs x j (omega (arith, e)))

-- the next one of some things is added with its number
pub added_numbered : {X Y : Type 0} (f : ℕ × X → Y) (xs : List X) (i : ℕ) (d : X) (now after : List Y)
    → i < length xs → now ≡ map f (enumerate_from 1 (take i xs))
    → after ≡ now ++ f (i + 1, get_or xs i d) ∷ []
    → after ≡ map f (enumerate_from 1 (take (i + 1) xs))
added_numbered f xs i d now after h so_far more =
    grind (arith, get_or, numbered_more, length-take-le, take_more)

-- parts of one size
pub parts_size : {X : Type 0} (f : ℕ → List X) (size : ℕ) → ((j : ℕ) → length (f j) ≡ size)
    → (a n : ℕ) → length (flat_map f (range_with_len a n)) ≡ n * size
parts_size f size same a zero = omega arith
parts_size f size same a (suc n) = grind (arith, length-append, parts_size f size same (a + 1) n)
