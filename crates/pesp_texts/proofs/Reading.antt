-- Reading row by row: names that stay, activities one more, and bytes that are replaced.
use Rattle.plan_num.proofs.Common.{◌≡◌, ℕ, ℤ, ◌+◌, ◌<◌, ◌≤◌, List, [], ◌∷◌, ◌++◌, length}
use Rattle.plan_num.proofs.Common.{slice_get, Some, true, false, refl, ap, sym, subst, ◌∙◌}
use Rattle.plan_num.proofs.Common.{arith, append_assoc, length-append, length_push, cases_lt, get_or_push}
use Rattle.plan_num.proofs.Common.{⊎_elim, get_or_append_left, slice_get-get_or, get_or_from_slice_get}
use Rattle.plan_num.proofs.Common.{int_eq, list_any, if◌then◌else◌}
use Rattle.std.proofs.lemmas.Option.{slice_get_within}
use Rattle.indexmap.specs.IndexSet.{insert_key}
use Rattle.text_fields.specs.Rows.{Row}
use Rattle.pesp_judge.specs.declared.weighted.WeightedActivity.{WeightedActivity}
use Rattle.pesp_texts.specs.Texts.{AreRead, Extends, IsActivityRow}

-- an item that is there stands there when more come
pub stays : {X : Type 0} (xs ys : List X) (place : ℕ) (x : X) → slice_get xs place ≡ Some x
    → slice_get (xs ++ ys) place ≡ Some x
stays xs ys place x at =
    let some = slice_get_within xs place x at in
    slice_get-get_or (xs ++ ys) place x (omega (arith, some, length-append xs ys))
    ∙ ap Some (get_or_append_left xs ys x place some ∙ get_or_from_slice_get xs place x x at)

-- and the last one stands at the end
pub stands_last : {X : Type 0} (xs : List X) (x : X) → slice_get (xs ++ x ∷ []) (length xs) ≡ Some x
stands_last xs x =
    slice_get-get_or (xs ++ x ∷ []) (length xs) x (omega (arith, length_push xs x))
    ∙ ap Some (get_or_push xs x x (length xs) refl)

pub names_stay : (names : List ℤ) (name : ℤ) → Extends names (insert_key int_eq names name)
names_stay names name =
    elim (list_any (int_eq name) names) as (λ b. Extends names (if b then names else names ++ name ∷ [])) [
      | true ↦ λ place other at. at
      | false ↦ λ place other at. stays names (name ∷ []) place other at
    ]

-- a row keeps its activity when names are added
keeps : (old new : List ℤ) (it : WeightedActivity) (row : Row) → Extends old new
    → IsActivityRow old it row → IsActivityRow new it row
keeps old new it row extends is =
    record {
      six = is.six;
      from = (is.from.0, is.from.1, extends it.activity.from is.from.0 is.from.2);
      to = (is.to.0, is.to.1, extends it.activity.to is.to.0 is.to.2);
      lower = is.lower;
      upper = is.upper;
      weight = is.weight;
    }

pub read_more : (old new : List ℤ) (activities : List WeightedActivity) (all left : List Row)
    (row : Row) (it : WeightedActivity) → Extends old new → AreRead old activities all (row ∷ left)
    → IsActivityRow new it row → AreRead new (activities ++ it ∷ []) all left
read_more old new activities all left row it extends read is =
    record {
      done = read.done ++ row ∷ [];
      whole = append_assoc read.done (row ∷ []) left ∙ read.whole;
      are = record {
        each = length_push activities it ∙ ap (λ n. n + 1) read.are.each ∙ sym (length_push read.done row);
        are = λ place other there at_it at_row.
            ⊎_elim
            (λ before. keeps old new other there extends (read.are.are place other there
            (before_last activities it place other before at_it)
            (before_last read.done row place there
            (subst (λ n. place < n) read.are.each before) at_row)))
            (λ last. subst (λ other. IsActivityRow new other there)
            (sym (at_last activities it place other last at_it))
            (subst (λ there. IsActivityRow new it there)
            (sym (at_last read.done row place there
            (subst (λ n. n ≤ place) read.are.each last) at_row)) is))
            (cases_lt place (length activities));
      };
    }
  where
    before_last : {X : Type 0} (xs : List X) (x : X) (place : ℕ) (y : X) → place < length xs
        → slice_get (xs ++ x ∷ []) place ≡ Some y → slice_get xs place ≡ Some y
    before_last xs x place y before at =
        slice_get-get_or xs place y before
        ∙ ap Some (sym (get_or_append_left xs (x ∷ []) y place before)
        ∙ get_or_from_slice_get (xs ++ x ∷ []) place y y at)

    at_last : {X : Type 0} (xs : List X) (x : X) (place : ℕ) (y : X) → length xs ≤ place
        → slice_get (xs ++ x ∷ []) place ≡ Some y → y ≡ x
    at_last xs x place y last at =
        let within = slice_get_within (xs ++ x ∷ []) place y at in
        let same : place ≡ length xs = omega (arith, within, last, length_push xs x) in
        sym (get_or_from_slice_get (xs ++ x ∷ []) place y x at)
        ∙ get_or_push xs x x place (sym same)
