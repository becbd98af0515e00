-- Of all lists of choices that pass a test, the one that comes first is found first.
use Rattle.plan_num.proofs.Common.{◌≡◌, ℕ, suc, ◌≤◌, ◌⊎◌, inl, inr, Bool, true, false, cond, ◌&&◌}
use Rattle.plan_num.proofs.Common.{nat_eq, List, [], ◌∷◌, ◌++◌, map, filter, fold, find, min}
use Rattle.plan_num.proofs.Common.{Option, Some, None, option_map, refl, ap, sym, ◌∙◌, subst, arith}
use Rattle.plan_num.proofs.Common.{eqb-true, AllByRecursion, flat_map, reduce, option_or}
use Rattle.plan_num.proofs.Common.{find-append, none-some, false_from_ne_true}
use Rattle.vehicle_model.specs.Plans.{all_lists}
use Rattle.link_plans.proofs.Common.{ComesNoLater, AreNoLater}
use Rattle.plan_num.proofs.Lists.{append_all}

-- an item is one of some
abbrev pub IsIn : List (Option ℕ) → Option ℕ → Type 0
IsIn [] x = ⊥
IsIn (c ∷ choices) x = (c ≡ x) ⊎ IsIn choices x

-- a list has one of the choices at each place
abbrev pub AreChoices : List (List (Option ℕ)) → List (Option ℕ) → Type 0
AreChoices [] [] = Unit {0}
AreChoices [] (x ∷ plan) = ⊥
AreChoices (choices ∷ more) [] = ⊥
AreChoices (choices ∷ more) (x ∷ plan) = IsIn choices x × AreChoices more plan

-- choices rise: none comes no later than one before it
abbrev pub AreRising : List (Option ℕ) → Type 0
AreRising [] = Unit {0}
AreRising (c ∷ choices) =
    ((x : Option ℕ) → IsIn choices x → ComesNoLater x c → ⊥) × AreRising choices

-- ---- what is found

pub find_mapped : {X Y : Type 0} (p : Y → Bool) (f : X → Y) (xs : List X)
    → find p (map f xs) ≡ option_map f (find (λ x. p (f x)) xs)
find_mapped p f [] = refl
find_mapped {X} {Y} p f (x ∷ xs) = split (p (f x)) (find_mapped p f xs)
  where
    split : (b : Bool) → find p (map f xs) ≡ option_map f (find (λ x. p (f x)) xs)
        → cond b (Some (f x)) (find p (map f xs))
        ≡ option_map f (cond b (Some x) (find (λ x. p (f x)) xs))
    split true rest = refl
    split false rest = rest

pub find_filtered : {X : Type 0} (p q : X → Bool) (xs : List X)
    → find p (filter q xs) ≡ find (λ x. q x && p x) xs
find_filtered p q [] = refl
find_filtered {X} p q (x ∷ xs) = split (q x) (find_filtered p q xs)
  where
    split : (b : Bool) → find p (filter q xs) ≡ find (λ x. q x && p x) xs
        → find p (cond b (x ∷ filter q xs) (filter q xs))
        ≡ cond (b && p x) (Some x) (find (λ x. q x && p x) xs)
    split true rest = ap (λ found. cond (p x) (Some x) found) rest
    split false rest = rest

-- ---- lists that begin with each of some choices

module _ (rests : List (List (Option ℕ))) (P : List (Option ℕ) → Bool) where
  abbrev pub behind : List (Option ℕ) → List (List (Option ℕ))
  behind choices = flat_map (λ choice. map (λ rest. choice ∷ rest) rests) choices

  none_with : (b : Option ℕ) → find (λ rest. P (b ∷ rest)) rests ≡ None
      → find P (map (λ rest. b ∷ rest) rests) ≡ None
  none_with b none = find_mapped P (λ rest. b ∷ rest) rests
      ∙ ap (option_map (λ rest. b ∷ rest)) none

  pub later_found : (b : Option ℕ) (choices : List (Option ℕ)) → find (λ rest. P (b ∷ rest)) rests ≡ None
      → find P (behind (b ∷ choices)) ≡ find P (behind choices)
  later_found b choices none = find-append P (map (λ rest. b ∷ rest) rests) (behind choices)
      ∙ ap (λ found. option_or found (find P (behind choices))) (none_with b none)

  none_behind : (choices : List (Option ℕ))
      → ((b : Option ℕ) → IsIn choices b → find (λ rest. P (b ∷ rest)) rests ≡ None)
      → find P (behind choices) ≡ None
  none_behind [] none = refl
  none_behind (b ∷ choices) none = later_found b choices (none b (inl refl))
      ∙ none_behind choices (λ c within. none c (inr within))

  found_behind : (c : Option ℕ) (rest : List (Option ℕ)) (choices : List (Option ℕ)) → IsIn choices c
      → find (λ more. P (c ∷ more)) rests ≡ Some rest
      → ((b : Option ℕ) → IsIn choices b → (ComesNoLater c b → ⊥)
      → find (λ more. P (b ∷ more)) rests ≡ None)
      → AreRising choices → find P (behind choices) ≡ Some (c ∷ rest)
  found_behind c rest [] within found none rising = elim within [ ]
  found_behind c rest (b ∷ choices) (inl same) found none rising =
      find-append P (map (λ rest. b ∷ rest) rests) (behind choices)
      ∙ ap (λ first. option_or first (find P (behind choices)))
      (find_mapped P (λ rest. b ∷ rest) rests
      ∙ ap (option_map (λ rest. b ∷ rest))
      (subst (λ at. find (λ more. P (at ∷ more)) rests ≡ Some rest) (sym same) found))
      ∙ ap (λ at. Some (at ∷ rest)) same
  found_behind c rest (b ∷ choices) (inr within) found none rising =
      later_found b choices (none b (inl refl) (rising.0 c within))
      ∙ found_behind c rest choices within found (λ d at. none d (inr at)) rising.1

-- ---- all lists of choices

pub none_of : (lists : List (List (Option ℕ))) (P : List (Option ℕ) → Bool)
    → ((plan : List (Option ℕ)) → AreChoices lists plan → P plan ≡ false)
    → find P (all_lists lists) ≡ None
unfolding all_lists
none_of [] P none = ap (λ b. cond b (Some []) None) (none [] tt)
none_of (choices ∷ more) P none = none_behind (all_lists more) P choices
    (λ b within. none_of more (λ rest. P (b ∷ rest)) (λ rest are. none (b ∷ rest) (within, are)))

rest_later : (c : Option ℕ) (rest other : List (Option ℕ)) → AreNoLater (c ∷ rest) (c ∷ other)
    → AreNoLater rest other
rest_later c rest other first i within same =
    first (suc i) (omega (arith, within)) (ap (λ some. c ∷ some) same)

-- the first that passes is the one that comes no later than any
pub first_of : (lists : List (List (Option ℕ))) (P : List (Option ℕ) → Bool) (plan : List (Option ℕ))
    → AreChoices lists plan → P plan ≡ true → AllByRecursion AreRising lists
    → ((other : List (Option ℕ)) → AreChoices lists other → P other ≡ true → AreNoLater plan other)
    → find P (all_lists lists) ≡ Some plan
unfolding all_lists
first_of [] P [] are passes rising first = ap (λ b. cond b (Some []) None) passes
first_of [] P (x ∷ plan) are passes rising first = elim are [ ]
first_of (choices ∷ more) P [] are passes rising first = elim are [ ]
first_of (choices ∷ more) P (c ∷ rest) are passes rising first =
    found_behind (all_lists more) P c rest choices are.0
    (first_of more (λ some. P (c ∷ some)) rest are.1 passes rising.1
    (λ other among fits. rest_later c rest other (first (c ∷ other) (are.0, among) fits)))
    (λ b within later. none_of more (λ some. P (b ∷ some))
    (λ other among. false_from_ne_true (P (b ∷ other))
    (λ is. later (first (b ∷ other) (within, among) is 0 (omega arith) refl))))
    rising.0

-- ---- what holds of all lists

pub all_choices : (lists : List (List (Option ℕ)))
    → AllByRecursion (AreChoices lists) (all_lists lists)
unfolding all_lists
all_choices [] = (tt, tt)
all_choices (choices ∷ more) = each_of (all_choices more) choices (λ b within. within)
  where
    with_one : (b : Option ℕ) → IsIn choices b → (rests : List (List (Option ℕ)))
        → AllByRecursion (AreChoices more) rests
        → AllByRecursion (AreChoices (choices ∷ more)) (map (λ rest. b ∷ rest) rests)
    with_one b within [] all = tt
    with_one b within (rest ∷ rests) all = ((within, all.0), with_one b within rests all.1)

    each_of : AllByRecursion (AreChoices more) (all_lists more) → (some : List (Option ℕ))
        → ((b : Option ℕ) → IsIn some b → IsIn choices b)
        → AllByRecursion (AreChoices (choices ∷ more))
        (flat_map (λ choice. map (λ rest. choice ∷ rest) (all_lists more)) some)
    each_of all [] within = tt
    each_of all (b ∷ some) within =
        append_all (AreChoices (choices ∷ more)) (map (λ rest. b ∷ rest) (all_lists more)) _
        (with_one b (within b (inl refl)) (all_lists more) all)
        (each_of all some (λ c at. within c (inr at)))

-- ---- the least cost

-- a number that no cost is below, and that one of them is
module _ {X : Type 0} (cost : X → ℕ) (least : ℕ) (one : X) where
  folded : (start : ℕ) (xs : List X) → least ≤ start → AllByRecursion (λ x. least ≤ cost x) xs
      → ((start ≡ least) ⊎ (find (λ x. nat_eq (cost x) least) xs ≡ Some one))
      → fold min start (map cost xs) ≡ least
  folded start [] above all (inl same) = same
  folded start [] above all (inr found) = absurd (none-some one found)
  folded start (x ∷ xs) above all (inl same) =
      folded (min start (cost x)) xs (omega (arith, above, all.0)) all.1
      (inl (omega (arith, same, all.0)))
  folded start (x ∷ xs) above all (inr found) =
      folded (min start (cost x)) xs (omega (arith, above, all.0)) all.1
      (split (nat_eq (cost x) least) refl found)
    where
      split : (b : Bool) → nat_eq (cost x) least ≡ b
          → cond b (Some x) (find (λ x. nat_eq (cost x) least) xs) ≡ Some one
          → (min start (cost x) ≡ least) ⊎ (find (λ x. nat_eq (cost x) least) xs ≡ Some one)
      split true is h = inl (omega (arith, above, eqb-true (cost x) least is))
      split false is h = inr h

  pub reduced : (xs : List X) → AllByRecursion (λ x. least ≤ cost x) xs
      → find (λ x. nat_eq (cost x) least) xs ≡ Some one → reduce min (map cost xs) ≡ Some least
  reduced [] all found = absurd (none-some one found)
  reduced (x ∷ xs) all found = grind (arith, nat_eq, folded, eqb-true)

pub filtered_all : {X : Type 0} (P : X → Type 0) (q : X → Bool) (xs : List X)
    → AllByRecursion (λ x. q x ≡ true → P x) xs → AllByRecursion P (filter q xs)
filtered_all P q [] all = tt
filtered_all {X} P q (x ∷ xs) all = split (q x) refl (filtered_all P q xs all.1)
  where
    split : (b : Bool) → q x ≡ b → AllByRecursion P (filter q xs)
        → AllByRecursion P (cond b (x ∷ filter q xs) (filter q xs))
    split true is rest = (all.0 is, rest)
    split false is rest = rest
