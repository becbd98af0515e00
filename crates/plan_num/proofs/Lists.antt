-- Lists with one item more, and lists without any.
use Rattle.plan_num.proofs.Common.{◌≡◌, ℕ, zero, suc, ◌≤◌, ◌==◌, Bool, true, false, ◌||◌, List, []}
use Rattle.plan_num.proofs.Common.{◌∷◌, ◌++◌, length, map, filter, slice_get, Option, Some, None}
use Rattle.plan_num.proofs.Common.{option_map, cond, unsigned_abs, pos, refl, ap, ◌∙◌, sym, arith}
use Rattle.plan_num.proofs.Common.{AllByRecursion, find, list_any, cases_Bool, eqb-true, false≢true}
use Rattle.plan_num.proofs.Common.{none-some}
use Rattle.plan_num.proofs.Tests.{or_false}

-- ---- one item more

pub last_item : {X : Type 0} (xs : List X) (x : X) → slice_get (xs ++ x ∷ []) (length xs) ≡ Some x
last_item [] x = refl
last_item (y ∷ xs) x = last_item xs x

pub front_item : {X : Type 0} (xs : List X) (x y : X) (k : ℕ) → slice_get xs k ≡ Some y
    → slice_get (xs ++ x ∷ []) k ≡ Some y
front_item [] x y k e = absurd (none-some y e)
front_item (z ∷ xs) x y zero e = e
front_item (z ∷ xs) x y (suc k) e = front_item xs x y k e

pub any_push : {X : Type 0} (p : X → Bool) (xs : List X) (x : X)
    → list_any p (xs ++ x ∷ []) ≡ (list_any p xs || p x)
any_push p [] x = or_false (p x)
any_push p (y ∷ xs) x = grind (arith, cases_Bool, any_push p xs x)

pub append_all : {X : Type 0} (P : X → Type 0) (xs ys : List X) → AllByRecursion P xs
    → AllByRecursion P ys → AllByRecursion P (xs ++ ys)
append_all P [] ys first second = second
append_all P (x ∷ xs) ys first second = (first.0, append_all P xs ys first.1 second)

-- ---- none

pub none_first : {X : Type 0} (xs : List X) → slice_get xs 0 ≡ None → xs ≡ []
none_first [] none = refl
none_first (x ∷ xs) none = absurd (cc)

pub none_long : {X : Type 0} (xs : List X) → (length xs == 0) ≡ true → xs ≡ []
none_long [] is = refl
none_long (x ∷ xs) is = absurd (omega (arith, eqb-true (length (x ∷ xs)) 0 is))

pub unmapped : {X Y : Type 0} (f : X → Y) (xs : List X) → map f xs ≡ [] → xs ≡ []
unmapped f [] e = refl
unmapped f (x ∷ xs) e = cc

-- ---- those that pass

pub filter_few : {X : Type 0} (test : X → Bool) (xs : List X) → length (filter test xs) ≤ length xs
filter_few test [] = omega arith
filter_few test (x ∷ xs) = grind (arith, cases_Bool, filter_few test xs)

-- what is found of all is found of those that pass a test, where what is looked for passes it
pub find_passing : {X : Type 0} (p test : X → Bool) → ((x : X) → p x ≡ true → test x ≡ true)
    → (xs : List X) → find p (filter test xs) ≡ find p xs
find_passing p test passes [] = refl
find_passing {X} p test passes (x ∷ xs) = by (p x) (test x) refl refl (find_passing p test passes xs)
  where
    by : (a b : Bool) → p x ≡ a → test x ≡ b → find p (filter test xs) ≡ find p xs
        → find p (cond b (x ∷ filter test xs) (filter test xs)) ≡ cond a (Some x) (find p xs)
    by true true e f rest = ap (λ c. cond c (Some x) (find p (filter test xs))) e
    by true false e f rest = absurd (false≢true (sym f ∙ passes x e))
    by false true e f rest = ap (λ c. cond c (Some x) (find p (filter test xs))) e ∙ rest
    by false false e f rest = rest

-- ---- numbers that may be there

pub back_again : (o : Option ℕ) → option_map unsigned_abs (option_map pos o) ≡ o
back_again None = refl
back_again (Some n) = refl
