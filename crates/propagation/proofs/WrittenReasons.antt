-- The reasons that are written of least times are right.
use Rattle.plan_num.proofs.Common.{◌≡◌, ℕ, ◌<◌, ◌==◌, nat_eq, true, false, List, [], ◌∷◌, ◌++◌}
use Rattle.plan_num.proofs.Common.{length, map, get_or, sym, ◌∙◌, refl, arith, ◌⊎◌, inl, inr, subst}
use Rattle.plan_num.proofs.Common.{Option, Contains, list_any, filter, fold, reduce, Decides-eqb}
use Rattle.plan_num.proofs.Common.{nat_eq_equiv, length-map, get_or-map, Contains-get_or}
use Rattle.plan_num.proofs.Common.{Contains-append_cases, list_any_at, get_or-map-range_with_len}
use Rattle.plan_num.proofs.Common.{length-map-range_with_len, list_any-from_Contains}
use Rattle.propagation.specs.declared.reason.Reason.TheVariants as reason
use Rattle.propagation.specs.declared.step.Activity.{Activity}
use Rattle.propagation.specs.declared.step.Step.{Step}
use Rattle.propagation.specs.LeastTimes.{IsLeast, time_at, asked, pushed_at}
use Rattle.propagation.specs.Problems.{AreChanges, DelayProblem, IsForward, steps_with, earliest_at}
use Rattle.propagation.specs.Reasons.{AreRight, is_right, is_tight, tight_ids, by_activity, lesser, canonical_reason}
use Rattle.propagation.specs.Reasons.{canonical_reasons}
use Rattle.propagation.proofs.Later.{latest_reached, lesser_reached, shifted}
use Rattle.propagation.proofs.ReasonsProve.{none}
use Rattle.propagation.proofs.Rounds.{in_filter, into_are, no_step, least_is_pushed}

-- ---- the reasons that are written

module _ (problem : DelayProblem) (kept : List Activity) (times : List ℕ) where
  by_least : (event : ℕ) (ids : List ℕ) (least : Option ℕ) → reduce lesser ids ≡ least →
      tight_ids problem kept times event ≡ ids
      → (ids ≡ [] → is_right problem kept times event reason.Turn ≡ true) →
      is_right problem kept times event (by_activity least) ≡ true
  by_least event [] least e is turn =
      subst (λ l. is_right problem kept times event (by_activity l) ≡ true) e (turn refl)
  by_least event (id ∷ ids) least e is turn =
      subst (λ l. is_right problem kept times event (by_activity l) ≡ true) e
      (subst (λ all. list_any (nat_eq (fold lesser id ids)) all ≡ true) (sym is)
      (list_any-from_Contains nat_eq_equiv (fold lesser id ids) (id ∷ ids)
      (reached (lesser_reached id ids))))
    where
      reached : (fold lesser id ids ≡ id) ⊎ Contains ids (fold lesser id ids) →
          Contains (id ∷ ids) (fold lesser id ids)
      reached (inl e) = (0, omega arith, sym e)
      reached (inr there) = shifted id ids (fold lesser id ids) there

  written_right : (event : ℕ) → (is_right problem kept times event reason.Source ≡ false →
      tight_ids problem kept times event ≡ [] → is_right problem kept times event reason.Turn ≡ true)
      → is_right problem kept times event (canonical_reason problem kept times event) ≡ true
  written_right event turn = grind (arith, by_least)

  module _ (event : ℕ) (equal : time_at times event ≡ pushed_at problem
      (steps_with problem kept) times event) where
    tight_is : (step : Step) → step.to ≡ event → asked times step ≡ time_at times event →
        is_tight times event step ≡ true
    tight_is step to just = grind arith

    -- a tight step that is no turn has an activity, whose id is then among those of the tight ones
    no_ids : (a : Activity) → Contains (problem.rides ++ kept) a → is_tight times event a.step ≡ true →
        ¬ (tight_ids problem kept times event ≡ [])
    no_ids a there tight nil =
        let inside =
        in_filter (λ a. is_tight times event a.step)
        (problem.rides ++ kept) there.0 a there.1 there.2 tight in grind (arith, length-map)

    by_step : (step : Step) → Contains (steps_with problem kept) step → is_tight times event step ≡ true →
        tight_ids problem kept times event ≡ [] → is_right problem kept times event reason.Turn ≡ true
    by_step step there tight nil =
        by (Contains-append_cases (map (λ (at : Activity). at.step) (problem.rides ++ kept)) problem.turns step there)
      where
        by : Contains (map (λ (at : Activity). at.step) (problem.rides ++ kept)) step ⊎ Contains problem.turns step →
            is_right problem kept times event reason.Turn ≡ true
        by (inl at) =
            let xs = problem.rides ++ kept in
            let within : at.0 < length xs = omega (arith, length-map xs (λ (at : Activity). at.step), at.1) in
            let a = get_or xs at.0 none in
            let is : a.step ≡ step = sym (get_or-map (λ (at : Activity). at.step) xs at.0 none step within) ∙ at.2 in
            absurd (no_ids a (Contains-get_or xs at.0 none within)
            (subst (λ s. is_tight times event s ≡ true) (sym is) tight) nil)
        by (inr at) = grind (arith, list_any_at)

    by_turn : is_right problem kept times event reason.Source ≡ false →
        tight_ids problem kept times event ≡ [] → is_right problem kept times event reason.Turn ≡ true
    by_turn not_source nil =
        by (latest_reached (earliest_at problem event)
        (map (asked times) (filter (λ step. step.to == event) (steps_with problem kept))))
      where
        by : (pushed_at problem (steps_with problem kept) times event ≡ earliest_at problem event) ⊎ Contains
            (map (asked times) (filter (λ step. step.to == event) (steps_with problem kept)))
            (pushed_at problem (steps_with problem kept) times event) →
            is_right problem kept times event reason.Turn ≡ true
        by (inl e) = grind (arith, Decides-eqb)
        by (inr at) =
            let xs = filter (λ step. step.to == event) (steps_with problem kept) in
            let within : at.0 < length xs = omega (arith, length-map xs (asked times), at.1) in
            let is = into_are problem (steps_with problem kept) event at.0 within in
            let just : asked times (get_or xs at.0 no_step) ≡ time_at times event =
            sym (get_or-map (asked times) xs at.0 no_step
            (pushed_at problem (steps_with problem kept) times event) within) ∙ at.2 ∙ sym equal in
            by_step (get_or xs at.0 no_step) is.0 (tight_is (get_or xs at.0 no_step) is.1 just) nil

pub written_reasons_are_right : (problem : DelayProblem) (kept : List Activity) (times : List ℕ)
    → IsForward problem → AreChanges problem kept → IsLeast problem kept times
    → AreRight problem kept times (canonical_reasons problem kept times)
unfolding canonical_reasons
written_reasons_are_right problem kept times forward among least = record {
  each = length-map-range_with_len (canonical_reason problem kept times) 0 (length problem.events);
  right = λ event within.
      subst (λ why. is_right problem kept times event why ≡ true)
      (sym (get_or-map-range_with_len (canonical_reason problem kept times) 0
      (length problem.events) event event reason.Turn within (omega arith)))
      (written_right problem kept times event
      (by_turn problem kept times event
      (least_is_pushed problem kept times forward among least event within)));
}
