-- Ids that rise, and the ids that they are.
use Rattle.plan_num.proofs.Common.{◌≡◌, ℤ, false, ◌&&◌, not, List, [], ◌∷◌, map, inl, inr, arith}
use Rattle.plan_num.proofs.Common.{is_some, Option, Some, None, refl, ap, sym, ◌∙◌, list_any}
use Rattle.plan_num.proofs.Common.{keys_of, int_cmp, int_eq, is_lt, int_cmp-IsAntisymmetric}
use Rattle.plan_num.proofs.Common.{find-put, same_entries, int_cmp_total, cases_Bool}
use Rattle.std.specs.Ordering.{is_eq}
use Rattle.std.specs.declared.cmp.Ordering.TheVariants.{Less}
use Rattle.std.specs.FinMap.{find}
use Rattle.walks.specs.RisingIds.{by_id, rising}
use Rattle.walks.proofs.ById.{by_id_sorted}

same_test : (x y : ℤ) → is_eq (int_cmp x y) ≡ int_eq x y
same_test x y = grind arith

-- neither of two ids is below the other where they are one
pub tied : (x y : ℤ) → (not (is_lt (int_cmp x y)) && not (is_lt (int_cmp y x))) ≡ int_eq x y
tied x y = grind (arith, int_cmp_total, same_test)

abbrev pub units : List ℤ → List (ℤ × Unit {0})
units ids = map (λ id. (id, tt {0})) ids

-- ids are among entries where they are found
among : (q : ℤ) (es : List (ℤ × Unit {0}))
    → list_any (int_eq q) (keys_of es) ≡ is_some (find int_cmp q es)
among q [] = refl
among q (e ∷ es) = grind (arith, same_test, cases_Bool, among q es)

found_there : (q : ℤ) (ids : List ℤ)
    → is_some (find int_cmp q (by_id (units ids))) ≡ list_any (int_eq q) ids
unfolding by_id
found_there q [] = refl
found_there q (id ∷ ids) =
    ap is_some (find-put int_cmp int_cmp_total q id tt (by_id (units ids)))
    ∙ rw (← same_test q id) (elim (cases_Bool (is_eq (int_cmp q id))) [
      | inl is ↦ rw is refl
      | inr is ↦ rw is (found_there q ids)
    ])

-- rising ids are the same ids
pub rising_has : (q : ℤ) (ids : List ℤ) → list_any (int_eq q) (rising ids) ≡ list_any (int_eq q) ids
rising_has q ids = among q (by_id (units ids)) ∙ found_there q ids

-- rising ids of one list are those of another that has the same ids
same_unit : (a b : Option (Unit {0})) → is_some a ≡ is_some b → a ≡ b
same_unit None None e = refl
same_unit None (Some y) e = absurd (cc)
same_unit (Some x) None e = absurd (cc)
same_unit (Some x) (Some y) e = refl

pub same_rising : (ids others : List ℤ) → ((q : ℤ)
    → list_any (int_eq q) ids ≡ list_any (int_eq q) others)
    → rising ids ≡ rising others
same_rising ids others same =
    ap keys_of (same_entries int_cmp int_cmp_total int_cmp-IsAntisymmetric (by_id (units ids))
    (by_id (units others))
    (by_id_sorted (units ids)) (by_id_sorted (units others))
    (λ q. same_unit _ _ (found_there q ids ∙ same q ∙ sym (found_there q others))))

-- an id below another one is not that one
pub apart : (x y : ℤ) → int_cmp x y ≡ Less → (int_eq x y ≡ false) × (int_eq y x ≡ false)
apart x y below = grind arith
