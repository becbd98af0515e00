-- One tight activity more.
use Rattle.plan_num.proofs.Common.{◌≡◌, ◌∙◌, ℕ, ◌+◌, ◌<◌, ◌≤◌, ◌&&◌, Bool, true, false, cond}
use Rattle.plan_num.proofs.Common.{nat_eq, List, [], ◌∷◌, ◌++◌, append_assoc, length, map, take}
use Rattle.plan_num.proofs.Common.{get_or, slice_set, Option, Some, None, refl, ap, sym, arith}
use Rattle.plan_num.proofs.Common.{items_where_true, range_with_len, reduce, eq-eqb, eqb-true}
use Rattle.plan_num.proofs.Common.{false≢true, ne_eqb, and_parts, append-nil, take_all}
use Rattle.plan_num.proofs.Common.{filter-append, get_or-map-range_with_len, fold_push}
use Rattle.propagation.specs.declared.step.Activity.{Activity}
use Rattle.propagation.specs.LeastTimes.{asked, time_at}
use Rattle.propagation.specs.Reasons.{is_tight, lesser, tight_among}
use Rattle.propagation.specs.TightIds.{with_id}
use Rattle.propagation.proofs.ChosenChanges.{none_left, taken_at}
use Rattle.bit_rows.proofs.Places.{told_anew}

reduce_more : (ids : List ℕ) (id : ℕ) → reduce lesser (ids ++ id ∷ []) ≡ Some (with_id (reduce lesser ids) id)
reduce_more [] id = refl
reduce_more (first ∷ ids) id = ap Some (fold_push lesser first ids id)

map_ids : (some : List Activity) (more : List Activity)
    → map (λ (at : Activity). at.id) (some ++ more) ≡ map (λ at. at.id) some ++ map (λ at. at.id) more
map_ids [] more = refl
map_ids (x ∷ some) more = ap (λ rest. x.id ∷ rest) (map_ids some more)

module _ (times : List ℕ) (n : ℕ) (some : List Activity) (at : Activity) where
  -- the least id of the tight ones into an event
  abbrev least_id : List Activity → ℕ → Option ℕ
  least_id all event = reduce lesser (tight_among times event all)

  among_more : (event : ℕ)
      → tight_among times event (some ++ at ∷ [])
      ≡ tight_among times event some ++ map (λ (a : Activity). a.id) (cond (is_tight times event at.step) (at ∷ []) [])
  among_more event = grind (arith, filter-append, map_ids)

  with_tight : (event : ℕ) → is_tight times event at.step ≡ true
      → least_id (some ++ at ∷ []) event ≡ Some (with_id (least_id some event) at.id)
  with_tight event is = grind (arith, among_more, reduce_more)

  append_none : (ids : List ℕ) → ids ++ [] ≡ ids
  append_none [] = refl
  append_none (id ∷ ids) = ap (λ rest. id ∷ rest) (append_none ids)

  without : (event : ℕ) → is_tight times event at.step ≡ false
      → least_id (some ++ at ∷ []) event ≡ least_id some event
  without event is = grind (arith, among_more, append_none)

  pub tight_noted : at.step.to < n → nat_eq (asked times at.step) (time_at times at.step.to) ≡ true
      → slice_set (map (least_id some) (range_with_len 0 n)) at.step.to
      (Some (with_id (get_or (map (least_id some) (range_with_len 0 n)) at.step.to None) at.id))
      ≡ map (least_id (some ++ at ∷ [])) (range_with_len 0 n)
  tight_noted inside tight =
      grind (
        arith,
        told_anew,
        get_or,
        with_tight,
        nat_eq,
        eq-eqb,
        get_or-map-range_with_len,
        without,
        ne_eqb,
      )

  pub slack_passed : nat_eq (asked times at.step) (time_at times at.step.to) ≡ false
      → map (least_id some) (range_with_len 0 n) ≡ map (least_id (some ++ at ∷ [])) (range_with_len 0 n)
  slack_passed slack = grind (arith, without, nat_eq, eqb-true)

-- ---- a chosen change more

module _ (times : List ℕ) (n : ℕ) (rides : List Activity) (kept : List Bool) (changes : List Activity)
  where
    -- the rides, and the chosen ones of the first changes
    abbrev counted : ℕ → List Activity
    counted j = rides ++ items_where_true kept (take j changes)

    abbrev least_ids : List Activity → List (Option ℕ)
    least_ids some = map (λ event. reduce lesser (tight_among times event some)) (range_with_len 0 n)

    pub no_change : (j : ℕ) → length rides ≤ j → least_ids (take j rides) ≡ least_ids (counted 0)
    no_change j past =
        ap least_ids (take_all j rides past ∙ sym (append-nil rides)
        ∙ ap (λ some. rides ++ some) (sym (none_left kept)))

    pub all_changes : (j : ℕ) → length changes ≤ j
        → least_ids (counted j) ≡ least_ids (rides ++ items_where_true kept changes)
    all_changes j past = ap (λ some. least_ids (rides ++ items_where_true kept some)) (take_all j changes past)

    module _ (i : ℕ) (d : Activity) (inside : i < length changes) where
      abbrev change : Activity
      change = get_or changes i d

      abbrev is_just : Bool
      is_just = nat_eq (asked times change.step) (time_at times change.step.to)

      counted_more : (b : Bool) → get_or kept i false ≡ b
          → counted (i + 1) ≡ counted i ++ cond b (change ∷ []) []
      counted_more b is = grind (arith, taken_at, append_assoc)

      pub change_noted : change.step.to < n → (get_or kept i false && is_just) ≡ true
          → slice_set (least_ids (counted i)) change.step.to
          (Some (with_id (get_or (least_ids (counted i)) change.step.to None) change.id))
          ≡ least_ids (counted (i + 1))
      change_noted there is =
          let parts = and_parts (get_or kept i false) is_just is in
          tight_noted times n (counted i) change there parts.1
          ∙ ap least_ids (sym (counted_more true parts.0))

      pub change_passed : (get_or kept i false && is_just) ≡ false
          → least_ids (counted i) ≡ least_ids (counted (i + 1))
      change_passed is =
          elim (get_or kept i false) as (λ b. get_or kept i false ≡ b
          → least_ids (counted i) ≡ least_ids (counted (i + 1))) [
            | true ↦ λ e. slack_passed times n (counted i) change (ap (λ b. b && is_just) (sym e) ∙ is)
                ∙ ap least_ids (sym (counted_more true e))
            | false ↦ λ e. ap least_ids (sym (counted_more false e ∙ append-nil (counted i)))
          ] refl
