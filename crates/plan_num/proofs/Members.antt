-- What is one of a list is one of the lists that are made of it.
use Rattle.plan_num.proofs.Common.{◌≡◌, ℕ, zero, suc, ◌+◌, ◌-◌, ◌<◌, ◌≤◌, ◌∙◌, Bool, true, false}
use Rattle.plan_num.proofs.Common.{List, [], ◌∷◌, map, filter, All, Contains, refl, ap, inl, inr}
use Rattle.plan_num.proofs.Common.{arith, enumerate_from, flat_map, list_any, range_with_len}
use Rattle.plan_num.proofs.Common.{cases_Bool, All-nil, All-cons, All-head, All-tail, All-append}
use Rattle.plan_num.proofs.Common.{All-contains, All-contains_itself, All-weaker}
use Rattle.plan_num.proofs.Common.{Contains-append_left, Contains-append_right, list_any_at}
use Rattle.plan_num.proofs.Common.{length-range_with_len, get_or-range_with_len}
use Rattle.plan_num.proofs.Common.{length-enumerate_from, get_or-enumerate_from}

pub Contains-head : {X : Type 0} (x : X) (xs : List X) → Contains (x ∷ xs) x
Contains-head x xs = (0, omega arith, refl)

pub Contains-cons : {X : Type 0} (x y : X) (xs : List X) → Contains xs y → Contains (x ∷ xs) y
Contains-cons x y xs there = Contains-append_right (x ∷ []) xs y there

-- a member of a list is its head or a member of its tail
pub Contains-rec : {X : Type 0} (P : X → Type 0) (x y : X) (xs : List X) → Contains (x ∷ xs) y → P x
    → ((y : X) → Contains xs y → P y) → P y
Contains-rec P x y xs there own rest = All-contains P (x ∷ xs) y
    (All-cons P x xs own (All-weaker (Contains xs) P rest xs (All-contains_itself xs))) there

pub Contains-map : {X Y : Type 0} (f : X → Y) (xs : List X) (x : X) → Contains xs x
    → Contains (map f xs) (f x)
Contains-map f [] x there = absurd (omega (arith, there.1))
Contains-map f (y ∷ xs) x there = Contains-rec (λ z. Contains (map f (y ∷ xs)) (f z)) y x xs there
    (Contains-head (f y) (map f xs)) (λ z h. Contains-cons (f y) (f z) (map f xs)
    (Contains-map f xs z h))

pub Contains-flat_map : {X Y : Type 0} (f : X → List Y) (xs : List X) (x : X) (y : Y)
    → Contains xs x → Contains (f x) y → Contains (flat_map f xs) y
Contains-flat_map f [] x y there own = absurd (omega (arith, there.1))
Contains-flat_map f (z ∷ xs) x y there own = Contains-rec (λ w. Contains (f w) y → Contains
    (flat_map f (z ∷ xs)) y) z x xs there (λ h. Contains-append_left (f z) (flat_map f xs) y h)
    (λ w h own. Contains-append_right (f z) (flat_map f xs) y (Contains-flat_map f xs w y h own))
    own

pub All-flat_map : {X Y : Type 0} (P : Y → Type 0) (f : X → List Y) (xs : List X)
    → All (λ x. All P (f x)) xs → All P (flat_map f xs)
All-flat_map P f [] all = All-nil P
All-flat_map P f (x ∷ xs) all = All-append P (f x) (flat_map f xs)
    (All-head (λ x. All P (f x)) x xs all) (All-flat_map P f xs
    (All-tail (λ x. All P (f x)) x xs all))

pub Contains-filter : {X : Type 0} (p : X → Bool) (xs : List X) (x : X) → Contains xs x → p x ≡ true
    → Contains (filter p xs) x
Contains-filter p [] x (k, h, is) passes = absurd (omega (arith, h))
Contains-filter p (first ∷ xs) x (zero, h, is) passes =
    rw (ap p is ∙ passes) (zero, omega arith, is)
Contains-filter p (first ∷ xs) x (suc k, h, is) passes =
    let rest = Contains-filter p xs x (k, omega (arith, h), is) passes in
    elim (cases_Bool (p first)) [
      | inl one ↦ rw one (suc rest.0, omega (arith, rest.1), rest.2)
      | inr one ↦ rw one rest
    ]

pub Contains-range : (a n j : ℕ) → a ≤ j → j < a + n → Contains (range_with_len a n) j
Contains-range a n j low high =
    let inside : j - a < n = omega (arith, low, high) in
    let back : a + (j - a) ≡ j = omega (arith, low) in (
      j - a,
      omega (arith, inside, length-range_with_len a n),
      get_or-range_with_len a n
          (j - a) j inside ∙ back,
    )

-- one with a number
pub contains_numbered : {X Y : Type 0} (f : ℕ × X → Y) (a : ℕ) (xs : List X) (x : X) → Contains xs x
    → (n : ℕ) × Contains (map f (enumerate_from a xs)) (f (n, x))
contains_numbered f a xs x (k, h, is) =
    let size = length-enumerate_from a xs in
    let at = get_or-enumerate_from a xs k (a + k, x) h ∙ ap (λ y. (a + k, y)) is in
    (a + k, Contains-map f (enumerate_from a xs) (a + k, x) (k, omega (arith, h, size), at))

-- a test that one of a list passes, and one that none does
pub any_of : {X : Type 0} (p : X → Bool) (xs : List X) (x : X) → Contains xs x → p x ≡ true
    → list_any p xs ≡ true
any_of p xs x (k, h, is) passes = list_any_at p xs k x h (ap p is ∙ passes)

pub none_pass : {X : Type 0} (p : X → Bool) (xs : List X) → All (λ x. p x ≡ false) xs
    → filter p xs ≡ []
none_pass p [] fails = refl
none_pass p (x ∷ xs) fails =
    rw (All-head (λ x. p x ≡ false) x xs fails)
    (none_pass p xs (All-tail (λ x. p x ≡ false) x xs fails))
