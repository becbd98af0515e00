-- Parts of lists of events that are numbered in their order: what one event or two of them give.
use Rattle.plan_num.proofs.Common.{◌≡◌, ℕ, zero, suc, ◌+◌, ◌<◌, ◌≤◌, arith, Bool, ◌&&◌, false, cond}
use Rattle.plan_num.proofs.Common.{List, [], ◌∷◌, length, map, filter, get_or, refl, ap, sym, ◌∙◌}
use Rattle.plan_num.proofs.Common.{flat_map, range_with_len, enumerate_from, count_by, append-nil}
use Rattle.plan_num.proofs.Common.{sum_by-cons, cases_Bool}

-- numbers change nothing of how many things pass a test that does not look at them
pub numbered_count : {X : Type 0} (f : ℕ × X → X) (p : X → Bool)
    → ((n : ℕ) (x : X) → p (f (n, x)) ≡ p x) → (a : ℕ) (xs : List X)
    → count_by p (map f (enumerate_from a xs)) ≡ count_by p xs
numbered_count f p same a [] = refl
numbered_count f p same a (x ∷ xs) =
    sum_by-cons (λ y. cond (p y) 1 0) (f (a, x)) (map f (enumerate_from (a + 1) xs))
    ∙ ap (λ b. cond b 1 0 + count_by p (map f (enumerate_from (a + 1) xs))) (same a x)
    ∙ ap (λ n. cond (p x) 1 0 + n) (numbered_count f p same (a + 1) xs)
    ∙ sym (sum_by-cons (λ y. cond (p y) 1 0) x xs)

-- nothing passes of parts of which nothing passes
pub no_parts : {A X : Type 0} (f : A → List X) → ((x : A) → f x ≡ []) → (xs : List A)
    → flat_map f xs ≡ []
no_parts f none [] = refl
no_parts f none (x ∷ xs) = rw (none x) (no_parts f none xs)

pub none_mapped : {A X : Type 0} (p : X → Bool) (f : A → X) → ((x : A) → p (f x) ≡ false)
    → (xs : List A) → filter p (map f xs) ≡ []
none_mapped p f fails [] = refl
none_mapped p f fails (x ∷ xs) = rw (fails x) (none_mapped p f fails xs)

-- what passes of what is made of those that pass another test
pub both_tests : {A X : Type 0} (p : X → Bool) (q : A → Bool) (f : A → X) (xs : List A)
    → filter p (map f (filter q xs)) ≡ flat_map (λ x. cond (q x && p (f x)) (f x ∷ []) []) xs
both_tests p q f [] = refl
both_tests p q f (x ∷ xs) = grind (arith, cases_Bool, both_tests p q f xs)

module _ {X Y : Type 0} (id : X → ℕ) (g : X → List Y) where
  -- the things from a number on give nothing
  later_none : (a : ℕ) (xs : List X) → map id xs ≡ range_with_len a (length xs)
      → ((x : X) → a ≤ id x → g x ≡ []) → flat_map g xs ≡ []
  later_none a [] are none = refl
  later_none a (x ∷ xs) are none =
      let first : id x ≡ a = let e = are in cc in
      let rest : map id xs ≡ range_with_len (a + 1) (length xs) = let e = are in cc in grind (
        arith,
        later_none (a + 1) xs rest (λ y h. none y (omega (arith, h))),
      )

  -- where the thing of one number alone gives something, all things together give that
  pub picked : (a j : ℕ) (xs : List X) (d : X) → map id xs ≡ range_with_len a (length xs)
      → j < length xs → ((x : X) → (id x ≡ a + j → ⊥) → g x ≡ []) → flat_map g xs ≡ g
      (get_or xs j d)
  picked a j [] d are h none = absurd (omega (arith, h))
  picked a zero (x ∷ xs) d are h none = grind (arith, later_none, append-nil)
  picked a (suc j) (x ∷ xs) d are h none =
      let first : id x ≡ a = let e = are in cc in
      let rest : map id xs ≡ range_with_len (a + 1) (length xs) = let e = are in cc in grind (
        arith,
        picked (a + 1) j xs d rest (omega (arith, h)) (λ y other. none y (λ e. other (omega
            (arith, e)))),
      )
