-- Items of lists, one after the other.
use Rattle.plan_num.proofs.Common.{◌-◌, ◌≡◌, ◌∙◌, ℕ, zero, suc, ◌+◌, ◌<◌, ◌≤◌, ◌==◌, ◌&&◌, Bool}
use Rattle.plan_num.proofs.Common.{true, List, [], ◌∷◌, ◌++◌, length, map, drop, take, get_or, Some}
use Rattle.plan_num.proofs.Common.{ap, sym, subst, refl, arith, append_assoc, inl, inr, position}
use Rattle.plan_num.proofs.Common.{unwrap_or, slice_get, zip, All, All-append, All-cons, All-nil}
use Rattle.plan_num.proofs.Common.{AllPairs-from_increasing, unwrap_or-slice_get, map-map, list_all}
use Rattle.plan_num.proofs.Common.{IsStrictlyIncreasing, eq-eqb, ne_eqb, le-leb, cases_lt, drop_all}
use Rattle.plan_num.proofs.Common.{drop_more, get_or-map, length-drop, length-map, take_all}
use Rattle.plan_num.proofs.Common.{take_more}
use Rattle.delay_trials.proofs.TrialFacts.{first_found, none_found}
use Rattle.wait_choice.specs.declared.row.WaitRow.{WaitRow}
use Rattle.wait_choice.specs.Judged.{are_choices, is_choice, is_node}
use Rattle.waiting_decisions.proofs.PathFacts.{position_alike}
use Rattle.propagation.specs.declared.step.Activity.{Activity}

-- what one more item of a list is turned into stands behind those of the first ones
pub one_pushed : {X Y : Type 0} (f : X → Y) (xs : List X) (i : ℕ) (d : X) (old new : List Y) (y : Y) → i < length xs
    → new ≡ old ++ y ∷ [] → old ≡ take i (map f xs) → y ≡ f (get_or xs i d) → new ≡ take (i + 1) (map f xs)
one_pushed f xs i d old new y inside is told same =
    is ∙ (λ j. told j ++ (same ∙ sym (get_or-map f xs i d (f d) inside)) j ∷ [])
    ∙ sym (take_more (map f xs) i (f d) (omega (arith, inside, length-map xs f)))

pub all_taken : {X Y : Type 0} (f : X → Y) (xs : List X) (i : ℕ) → length xs ≤ i → take i (map f xs) ≡ map f xs
all_taken f xs i past = take_all i (map f xs) (omega (arith, past, length-map xs f))

-- the same behind others
pub behind_pushed : {X Y : Type 0} (f : X → Y) (xs : List X) (i : ℕ) (d : X) (first old new : List Y) (y : Y)
    → i < length xs
    → new ≡ old ++ y ∷ [] → old ≡ first ++ take i (map f xs) → y ≡ f (get_or xs i d)
    → new ≡ first ++ take (i + 1) (map f xs)
behind_pushed f xs i d first old new y inside is told same =
    is ∙ (λ j. told j ++ (same ∙ sym (get_or-map f xs i d (f d) inside)) j ∷ [])
    ∙ append_assoc first (take i (map f xs)) (get_or (map f xs) i (f d) ∷ [])
    ∙ ap (λ some. first ++ some) (sym (take_more (map f xs) i (f d) (omega (arith, inside, length-map xs f))))

pub fits_pushed : {X : Type 0} (P : X → Type 0) (old new : List X) (x : X) → new ≡ old ++ x ∷ [] → All P old → P x
    → All P new
fits_pushed P old new x is all one =
    subst (All P) (sym is) (All-append P old (x ∷ []) all (All-cons P x [] one (All-nil P)))

pub got : {X : Type 0} (xs : List X) (i : ℕ) (d x : X) → slice_get xs i ≡ Some x → x ≡ get_or xs i d
got xs i d x is = sym (ap (λ o. unwrap_or o d) is) ∙ unwrap_or-slice_get xs i d

-- ---- the index of an id

module _ (ids : List ℕ) (rise : IsStrictlyIncreasing ids) (id : ℕ) where
  pub far : (k i : ℕ) → k < i → i < length ids → get_or ids k 0 < get_or ids i 0
  far k i less inside = AllPairs-from_increasing ids rise k i 0 less inside

  pub never_falls : (i j : ℕ) → i ≤ j → j < length ids → get_or ids i 0 ≤ get_or ids j 0
  never_falls i j most inside = grind (arith, cases_lt, get_or, far)

  pub found_at : (i : ℕ) → i < length ids → get_or ids i 0 ≡ id
      → i ≡ unwrap_or (position (λ other. other == id) ids) (length ids)
  found_at i inside is =
      ap (λ o. unwrap_or o (length ids))
      (first_found (λ other. other == id) ids i 0 inside
      (λ k less. ne_eqb (get_or ids k 0) id (λ same. let low = far k i less inside in omega (arith, low, same, is)))
      (eq-eqb (get_or ids i 0) id is))

  pub not_there : (i : ℕ) → ((k : ℕ) → k < i → get_or ids k 0 < id)
      → ((k : ℕ) → i ≤ k → k < length ids → id < get_or ids k 0)
      → length ids ≡ unwrap_or (position (λ other. other == id) ids) (length ids)
  not_there i below above =
      ap (λ o. unwrap_or o (length ids))
      (none_found (λ other. other == id) ids 0
      (λ k inside. elim (cases_lt k i) [
        | inl before ↦ let low = below k before in ne_eqb (get_or ids k 0) id (λ same. omega (arith, low, same))
        | inr past ↦ let high = above k past inside in ne_eqb (get_or ids k 0) id (λ same. omega (arith, high, same))
      ]))

-- the index among the ids of changes
pub index_alike : (ids : List ℕ) (changes : List Activity) (id : ℕ) → ids ≡ map (λ change. change.id) changes
    → unwrap_or (position (λ other. other == id) ids) (length ids)
    ≡ unwrap_or (position (λ change. change.id == id) changes) (length changes)
index_alike ids changes id is = grind (arith, map-map, length-map, position_alike)

-- ---- whether rows decide changes

module _ (rows : List WaitRow) (changes : List Activity) (i : ℕ) (r : WaitRow) (d : Activity) where
  abbrev pub left_fit : ℕ → Bool
  left_fit i = list_all (λ at. is_choice at.0 at.1) (zip (drop i rows) (drop i changes))

  pub fit_more : i < length rows → i < length changes
      → left_fit i ≡ (is_choice (get_or rows i r) (get_or changes i d) && left_fit (i + 1))
  fit_more one two =
      λ k. list_all (λ at. is_choice at.0 at.1) (zip (drop_more rows i r one k) (drop_more changes i d two k))

pub fit_end : (rows : List WaitRow) (changes : List Activity) (i : ℕ) → length changes ≤ i
    → list_all (λ at. is_choice at.0 at.1) (zip (drop i rows) (drop i changes)) ≡ true
fit_end rows changes i past =
    ap (λ left. list_all (λ at. is_choice at.0 at.1) (zip (drop i rows) left)) (drop_all i changes past)
    ∙ none (drop i rows)
  where
    none : (rows : List WaitRow) → list_all (λ at. is_choice at.0 at.1) (zip rows []) ≡ true
    none [] = refl
    none (row ∷ rows) = refl

pub choices_are : (changes : List Activity) (rows : List WaitRow) (fit nodes : Bool) → length changes ≤ length rows
    → list_all (λ at. is_choice at.0 at.1) (zip rows changes) ≡ fit
    → list_all is_node (drop (length changes) rows) ≡ nodes → (fit && nodes) ≡ are_choices changes rows
choices_are changes rows fit nodes enough one two =
    sym (λ i. (le-leb (length changes) (length rows) enough i && one i) && two i)

-- all that is behind some first items
pub rest_all : {X : Type 0} (xs : List X) (k : ℕ) → take (length xs - k) (drop k xs) ≡ drop k xs
rest_all xs k = take_all (length xs - k) (drop k xs) (omega (arith, length-drop k xs))

pub drop_twice : {X : Type 0} (n : ℕ) (xs : List X) → drop n (drop 1 xs) ≡ drop (n + 1) xs
drop_twice n [] = none n ∙ sym (none (n + 1))
  where
    none : {X : Type 0} (n : ℕ) → drop {A = X} n [] ≡ []
    none zero = refl
    none (suc n) = refl
drop_twice n (x ∷ xs) = let more : n + 1 ≡ suc n = omega arith in sym (ap (λ k. drop k (x ∷ xs)) more)
