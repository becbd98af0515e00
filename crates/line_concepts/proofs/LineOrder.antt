-- The order of lines, and the first line of a list in it.
use Rattle.plan_num.proofs.Common.{◌≡◌, ℕ, ℤ, ◌<◌, ◌<ℤ◌, Bool, true, false, not, nat_lt, int_lt}
use Rattle.plan_num.proofs.Common.{List, [], ◌∷◌, find, None, IfSome, ◌⊎◌, inl, inr, ⊎_elim, refl}
use Rattle.plan_num.proofs.Common.{ap, sym, ◌∙◌, arith, ints, list_all, and_parts, and_from}
use Rattle.plan_num.proofs.Common.{false_from_ne_true, true≢false, lt-ltb, eq-eqb, cases_Bool}
use Rattle.plan_num.proofs.Common.{true_from_ne_false, or_right, IfSome_then}
use Rattle.line_cost_model.proofs.Common.{stands_before, CostedLine}

-- ---- a list has a least element

-- an element is one of a list
abbrev pub IsOneOf : {X : Type 0} → X → List X → Type 0
IsOneOf x [] = ⊥
IsOneOf x (y ∷ ys) = (y ≡ x) ⊎ IsOneOf x ys

pub all_have : {X : Type 0} (p : X → Bool) (xs : List X) (x : X) → list_all p xs ≡ true
    → IsOneOf x xs → p x ≡ true
all_have p [] x all one = absurd one
all_have p (y ∷ ys) x all (inl same) = ap p (sym same) ∙ (and_parts _ _ all).0
all_have p (y ∷ ys) x all (inr one) = all_have p ys x (and_parts _ _ all).1 one

-- what is found passes, and is one of the list
pub found_passes : {X : Type 0} (p : X → Bool) (xs : List X)
    → IfSome (find p xs) (λ x. (p x ≡ true) × IsOneOf x xs)
found_passes p [] = tt
found_passes p (x ∷ xs) = grind (arith, cases_Bool, IfSome_then, found_passes p xs)

-- one that passes is found
pub one_found : {X : Type 0} (p : X → Bool) (xs : List X) (x : X) → IsOneOf x xs → p x ≡ true
    → find p xs ≡ None → ⊥
one_found p [] x one passes none = one
one_found p (y ∷ ys) x one passes none = elim (cases_Bool (p y)) [
  | inl is ↦ absurd (let e = rw is at none in cc)
  | inr is ↦ elim one [
    | inl same ↦ true≢false (sym (ap p same ∙ passes) ∙ is)
    | inr more ↦ one_found p ys x more passes (rw is at none)
  ]
]

module _ {X : Type 0} (before : X → X → Bool) (self : (x : X) → before x x ≡ false)
    (through : (a b c : X) → before a b ≡ true → before b c ≡ true → before a c ≡ true) where
  -- no element of a list comes before one
  abbrev pub is_least : List X → X → Bool
  is_least xs x = list_all (λ other. not (before other x)) xs

  none_through : (xs : List X) (a b : X) → before a b ≡ true → is_least xs b ≡ true
      → is_least xs a ≡ true
  none_through [] a b h least = refl
  none_through (x ∷ xs) a b h least =
      let parts = and_parts _ _ least in grind (
        arith,
        and_from,
        false_from_ne_true,
        true≢false,
        none_through xs a b h parts.1,
      )

  record Least (xs : List X) : Type 0 where
    least : X
    one : IsOneOf least xs
    passes : is_least xs least ≡ true

  least_of : (x : X) (xs : List X) → Least (x ∷ xs)
  least_of x [] = record { least = x; one = inl refl; passes = and_from _ _ (ap not (self x)) refl }
  least_of x (y ∷ ys) =
      let rest = least_of y ys in
      elim (cases_Bool (before x rest.least)) [
        | inl is ↦ record {
          least = x;
          one = inl refl;
          passes = and_from _ _ (ap not (self x)) (none_through (y ∷ ys) x rest.least is rest.passes);
        }
        | inr is ↦ grind (arith, and_from)
      ]

  -- so it is found
  pub least_found : (xs : List X) → find (is_least xs) xs ≡ None → xs ≡ []
  least_found [] none = refl
  least_found (x ∷ xs) none =
      let some = least_of x xs in grind (arith, one_found)

-- ---- lines

Stands : CostedLine → CostedLine → Type 0
Stands line other = (other.cost < line.cost) ⊎ ((other.cost ≡ line.cost) × (line.id <ℤ other.id))

yes_int : (a b : ℤ) → a <ℤ b → int_lt a b ≡ true
yes_int a b h = true_from_ne_false _ (λ e. omega (arith, ints, e, h))

stands_is : (line other : CostedLine) → stands_before line other ≡ true → Stands line other
unfolding Stands
stands_is line other h = grind arith

is_stands : (line other : CostedLine) → Stands line other → stands_before line other ≡ true
unfolding Stands
is_stands line other (inl less) = rw (lt-ltb other.cost line.cost less) refl
is_stands line other (inr same) = or_right (nat_lt other.cost line.cost) _
    (and_from _ _ (eq-eqb other.cost line.cost same.0) (yes_int line.id other.id same.1))

never_self : (line : CostedLine) → Stands line line → ⊥
unfolding Stands
never_self line (inl less) = omega (arith, less)
never_self line (inr same) = omega (arith, ints, same.1)

both_stand : (a b c : CostedLine) → Stands a b → Stands b c → Stands a c
unfolding Stands
both_stand a b c (inl x) (inl y) = inl (omega (arith, x, y))
both_stand a b c (inl x) (inr y) = inl (omega (arith, x, y.0))
both_stand a b c (inr x) (inl y) = inl (omega (arith, x.0, y))
both_stand a b c (inr x) (inr y) = inr (omega (arith, x.0, y.0), omega (arith, ints, x.1, y.1))

-- of two lines with different ids one stands before the other
one_stands : (a b : CostedLine) → (a.id <ℤ b.id) ⊎ (b.id <ℤ a.id) → Stands a b ⊎ Stands b a
unfolding Stands
one_stands a b apart = grind arith

abbrev pub before : ℕ × CostedLine → ℕ × CostedLine → Bool
before at other = stands_before at.1 other.1

pub before_self : (at : ℕ × CostedLine) → before at at ≡ false
before_self at = false_from_ne_true _ (λ e. never_self at.1 (stands_is at.1 at.1 e))

pub before_through : (a b c : ℕ × CostedLine) → before a b ≡ true → before b c ≡ true
    → before a c ≡ true
before_through a b c h k =
    is_stands a.1 c.1 (both_stand a.1 b.1 c.1 (stands_is a.1 b.1 h) (stands_is b.1 c.1 k))

-- a line with another id that does not stand before one stands behind it
pub stands_behind : (a b : CostedLine) → (a.id <ℤ b.id) ⊎ (b.id <ℤ a.id)
    → not (stands_before a b) ≡ true → stands_before b a ≡ true
stands_behind a b apart h = grind (arith, ⊎_elim, true≢false, is_stands, one_stands)
