-- Parts of lists, tests of them, and numbers in order.
use Rattle.plan_num.proofs.Common.{◌≡◌, ℕ, zero, suc, ◌+◌, ◌-◌, ◌<◌, ◌≤◌, arith, Bool, true, false}
use Rattle.plan_num.proofs.Common.{◌&&◌, cond, List, [], ◌∷◌, ◌++◌, map, filter, refl, ap, ◌∙◌}
use Rattle.plan_num.proofs.Common.{flat_map, range_with_len, map-append, append-nil, filter-append}
use Rattle.plan_num.proofs.Common.{cases_Bool}

-- what passes of all parts
pub filter_parts : {A X : Type 0} (p : X → Bool) (f : A → List X) (xs : List A)
    → filter p (flat_map f xs) ≡ flat_map (λ x. filter p (f x)) xs
filter_parts p f [] = refl
filter_parts p f (x ∷ xs) =
    filter-append p (f x) (flat_map f xs) ∙ ap (λ ys. filter p (f x) ++ ys) (filter_parts p f xs)

pub map_parts : {A X Y : Type 0} (g : X → Y) (f : A → List X) (xs : List A)
    → map g (flat_map f xs) ≡ flat_map (λ x. map g (f x)) xs
map_parts g f [] = refl
map_parts g f (x ∷ xs) =
    map-append g (f x) (flat_map f xs) ∙ ap (λ ys. map g (f x) ++ ys) (map_parts g f xs)

pub same_parts : {A X : Type 0} (f g : A → List X) → ((x : A) → f x ≡ g x) → (xs : List A)
    → flat_map f xs ≡ flat_map g xs
same_parts f g same [] = refl
same_parts f g same (x ∷ xs) =
    ap (λ ys. ys ++ flat_map f xs) (same x) ∙ ap (λ ys. g x ++ ys) (same_parts f g same xs)

pub same_map : {A X : Type 0} (f g : A → X) → ((x : A) → f x ≡ g x) → (xs : List A) → map f xs
    ≡ map g xs
same_map f g same [] = refl
same_map f g same (x ∷ xs) = ap (λ y. y ∷ map f xs) (same x)
    ∙ ap (λ ys. g x ∷ ys) (same_map f g same xs)

pub filter_map_is : {A X : Type 0} (p : X → Bool) (f : A → X) (xs : List A)
    → filter p (map f xs) ≡ map f (filter (λ x. p (f x)) xs)
filter_map_is p f [] = refl
filter_map_is p f (x ∷ xs) = grind (arith, cases_Bool, filter_map_is p f xs)

pub filter_both : {X : Type 0} (p q : X → Bool) (xs : List X)
    → filter (λ x. p x && q x) xs ≡ filter q (filter p xs)
filter_both p q [] = refl
filter_both p q (x ∷ xs) = grind (arith, cases_Bool, filter_both p q xs)

-- parts of the things that pass a test
pub parts_where : {A X : Type 0} (p : A → Bool) (f : A → List X) (xs : List A)
    → flat_map (λ x. cond (p x) (f x) []) xs ≡ flat_map f (filter p xs)
parts_where p f [] = refl
parts_where p f (x ∷ xs) = grind (arith, cases_Bool, parts_where p f xs)

-- ---- numbers in order

pub none_of_range : (p : ℕ → Bool) (a n : ℕ) → ((k : ℕ) → a ≤ k → k < a + n → p k ≡ false)
    → filter p (range_with_len a n) ≡ []
none_of_range p a zero none = refl
none_of_range p a (suc n) none =
    rw (none a (omega arith) (omega arith))
    (none_of_range p (a + 1) n (λ k low high. none k (omega (arith, low)) (omega (arith, high))))

pub all_of_range : (p : ℕ → Bool) (a n : ℕ) → ((k : ℕ) → a ≤ k → k < a + n → p k ≡ true)
    → filter p (range_with_len a n) ≡ range_with_len a n
all_of_range p a zero all = refl
all_of_range p a (suc n) all =
    rw (all a (omega arith) (omega arith)) (ap (λ rest. a ∷ rest)
    (all_of_range p (a + 1) n (λ k low high. all k (omega (arith, low)) (omega (arith, high)))))

pub range_parts : (a m n : ℕ) → range_with_len a (m + n) ≡ range_with_len a m
    ++ range_with_len (a + m) n
range_parts a zero n = grind arith
range_parts a (suc m) n =
    let e : suc m + n ≡ suc (m + n) = omega arith in grind (arith, range_parts (a + 1) m n)

-- the numbers of a window
pub window : (p : ℕ → Bool) (from count all : ℕ) → from + count ≤ all
    → ((k : ℕ) → k < from → p k ≡ false)
    → ((k : ℕ) → from ≤ k → k < from + count → p k ≡ true)
    → ((k : ℕ) → from + count ≤ k → p k ≡ false)
    → filter p (range_with_len 0 all) ≡ range_with_len from count
window p from count all fits below inside above =
    let rest : ℕ = all - (from + count) in
    let e : all ≡ from + (count + rest) = omega (arith, fits) in
    let zero_from : 0 + from ≡ from = omega arith in
    ap (λ n. filter p (range_with_len 0 n)) e
    ∙ ap (filter p) (range_parts 0 from (count + rest)
    ∙ ap (λ b. range_with_len 0 from ++ range_with_len b (count + rest)) zero_from
    ∙ ap (λ ys. range_with_len 0 from ++ ys) (range_parts from count rest))
    ∙ filter-append p (range_with_len 0 from)
    (range_with_len from count ++ range_with_len (from + count) rest)
    ∙ ap (λ ys. ys ++ filter p (range_with_len from count ++ range_with_len (from + count) rest))
    (none_of_range p 0 from (λ k low high. below k (omega (arith, high))))
    ∙ filter-append p (range_with_len from count) (range_with_len (from + count) rest)
    ∙ ap (λ ys. ys ++ filter p (range_with_len (from + count) rest))
    (all_of_range p from count (λ k low high. inside k low high))
    ∙ ap (λ ys. range_with_len from count ++ ys)
    (none_of_range p (from + count) rest (λ k low high. above k low))
    ∙ append-nil (range_with_len from count)

pub shifted : {X : Type 0} (f : ℕ → X) (by a n : ℕ)
    → map f (range_with_len (by + a) n) ≡ map (λ k. f (by + k)) (range_with_len a n)
shifted f by a zero = refl
shifted f by a (suc n) = grind (arith, shifted f by (a + 1) n)
