-- Rows whose ids are their places keep that rule, and the events that they name are there.
use Rattle.plan_num.proofs.Common.{◌≡◌, ℕ, ◌+◌, cond, not, arith, false, List, [], ◌∷◌, ◌++◌}
use Rattle.plan_num.proofs.Common.{length, map, ap, sym, ◌∙◌, AllByRecursion, range_with_len}
use Rattle.plan_num.proofs.Common.{eq-eqb, ne_eqb, le-ltb, length_push}
use Rattle.tables.specs.declared.row_why.RowWhy.TheVariants as why
use Rattle.tables.proofs.Common.{RowRule, broken_whys, KeepRules}
use Rattle.event_tables.specs.Places.{own_place, is_none_of, IsOneOf}
use Rattle.event_tables.proofs.Numbering.{none_of_places}

module _ {X : Type 0} (id : X → ℕ) (rules : List (RowRule X)) (Good : X → Type 0)
    (keeps : (before : List X) (row : X) → Good row → broken_whys rules before row ≡ []) where
  pub places_keep : (before rows : List X)
      → map id rows ≡ range_with_len (length before + 1) (length rows)
      → AllByRecursion Good rows → KeepRules (own_place id ∷ rules) before rows
  places_keep before [] are good = tt
  places_keep before (row ∷ rows) are good =
      let first : id row ≡ length before + 1 = let e = are in cc in
      let rest : map id rows ≡ range_with_len (length before + 1 + 1) (length rows) =
      let e = are in cc in (
        ap (λ b. cond (not b) (why.OrderGap ∷ []) [] ++ broken_whys rules before row)
            (eq-eqb _ _ first)
            ∙ keeps before row good.0,
        places_keep (before ++ row ∷ []) rows
            (rest ∙ ap (λ n. range_with_len (n + 1) (length rows)) (sym (length_push before row)))
            good.1,
      )

-- the event of an id is there
pub is_known : (count id : ℕ) → IsOneOf count id → is_none_of (range_with_len 1 count) id ≡ false
is_known count id is = grind (arith, none_of_places, ne_eqb, le-ltb)
