-- Rows that are passed over.
use Rattle.plan_num.proofs.Common.{◌≡◌, ℕ, zero, suc, ◌+◌, ◌≤◌, List, [], ◌∷◌, length, drop, ap, sym, arith}
use Rattle.plan_num.proofs.Common.{slice_get, Some, ◌∙◌, subst, length-drop}
use Rattle.std.proofs.lemmas.Option.{slice_get_within}
use Rattle.text_fields.specs.Rows.{Row}
use Rattle.pesp_texts.specs.Texts.{IsNumberOf}

first : {X : Type 0} (xs ys : List X) (n : ℕ) (x : X) → drop n xs ≡ x ∷ ys
    → (slice_get xs n ≡ Some x) × (drop (suc n) xs ≡ ys)
first [] ys zero x is = absurd (cc)
first [] ys (suc n) x is = absurd (cc)
first (y ∷ more) ys zero x is = (cc, cc)
first (y ∷ more) ys (suc n) x is = first more ys n x is

pub passed_more : (all rows left : List Row) (passed : ℕ) (row : Row) → rows ≡ drop passed all
    → rows ≡ row ∷ left → left ≡ drop (passed + 1) all
passed_more all rows left passed row is next =
    let one : suc passed ≡ passed + 1 = omega arith in
    subst (λ n. left ≡ drop n all) one (sym (first all left passed row (sym is ∙ next)).1)

pub number_here : (all rows left : List Row) (passed index : ℕ) (row : Row)
    → rows ≡ drop passed all → passed ≡ index → rows ≡ row ∷ left
    → IsNumberOf all index row.number
number_here all rows left passed index row is all_passed next other at =
    let here = subst (λ n. slice_get all n ≡ Some row) all_passed
    (first all left passed row (sym is ∙ next)).0 in
    let same : Some row ≡ Some other = sym here ∙ at in
    let own : row ≡ other = cc in ap (λ (row : Row). row.number) own

pub none_here : (all rows : List Row) (passed index : ℕ) → rows ≡ drop passed all → rows ≡ []
    → passed ≤ index → IsNumberOf all index 0
none_here all rows passed index is none less other at =
    let within = slice_get_within all index other at in
    let size = ap length (sym is ∙ none) in
    absurd (omega (arith, within, less, size, length-drop passed all))
