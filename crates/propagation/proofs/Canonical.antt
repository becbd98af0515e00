-- The reasons of a problem that are made are the canonical ones, and name ids that are not too
-- great.
use Rattle.plan_num.proofs.Common.{◌≡◌, ◌∙◌, ℕ, ◌+◌, ◌<◌, ◌≤◌, Bool, true, false, cond, nat_eq}
use Rattle.plan_num.proofs.Common.{List, [], ◌∷◌, ◌++◌, length, map, filter, get_or, All, Result}
use Rattle.plan_num.proofs.Common.{Ok, Err, IfOk, sym, subst, arith, fold, items_where_true}
use Rattle.plan_num.proofs.Common.{range_with_len, reduce, ltb-true, All-append, All-contains}
use Rattle.plan_num.proofs.Common.{All-filter, All-map, get_or-map-range_with_len}
use Rattle.plan_num.proofs.Common.{length-map-range_with_len}
use Rattle.propagation.specs.declared.reason.Reason.{Reason}
use Rattle.propagation.specs.declared.reason.Reason.TheVariants as reason
use Rattle.propagation.specs.declared.step.Activity.{Activity}
use Rattle.propagation.specs.Reasons.{named_activity, by_activity, canonical_reasons, is_tight, lesser, tight_among}
use Rattle.propagation.specs.LeastTimes.{time_at}
use Rattle.propagation.specs.Problems.{DelayProblem}
use Rattle.propagation.specs.TightIds.{reason_by}
use Rattle.propagation.specs.Waiting.{chosen_changes}
use Rattle.propagation.proofs.PassIsLeast.{chosen_are_changes}

-- what holds of all changes holds of the chosen ones
pub chosen_keep : (P : Activity → Type 0) (problem : DelayProblem) (kept : List Bool) → All P problem.changes
    → All P (chosen_changes problem kept)
chosen_keep P problem kept all k d inside =
    All-contains P problem.changes (get_or (chosen_changes problem kept) k d) all
    (chosen_are_changes problem kept k d inside)

-- the activities that count
module _ (problem : DelayProblem) (kept : List Bool) where
  pub kept_told : (rides changes : List Activity) → rides ≡ problem.rides → changes ≡ problem.changes
      → {A E : Type 0} (view : A → List Activity) (result : Result A E)
      → IfOk result (λ all. view all ≡ rides ++ items_where_true kept changes)
      → IfOk result (λ all. view all ≡ problem.rides ++ chosen_changes problem kept)
  kept_told rides changes r h view (Ok all) told = told ∙ (λ i. r i ++ items_where_true kept (h i))
  kept_told rides changes r h view (Err error) told = tt

pub kept_all : (P : Activity → Type 0) (problem : DelayProblem) (kept : List Bool) → All P problem.rides
    → All P problem.changes → {A E : Type 0} (view : A → List Activity) (result : Result A E)
    → IfOk result (λ all. view all ≡ problem.rides ++ chosen_changes problem kept)
    → IfOk result (λ all. All P (view all))
kept_all P problem kept rides changes view (Ok all) told =
    subst (All P) (sym told)
    (All-append P problem.rides (chosen_changes problem kept) rides (chosen_keep P problem kept changes))
kept_all P problem kept rides changes view (Err error) told = tt

-- the least of some ids is no greater than the first one
below_first : (first : ℕ) (ids : List ℕ) → fold lesser first ids ≤ first
below_first first [] = omega arith
below_first first (id ∷ ids) = grind (arith, ltb-true, below_first (lesser first id) ids)

module _ (most : ℕ) where
  named_below : (ids : List ℕ) → All (λ id. id ≤ most) ids → named_activity (by_activity (reduce lesser ids)) ≤ most
  named_below [] small = omega arith
  named_below (id ∷ ids) small =
      let first : id ≤ most = small 0 id (omega arith) in omega (arith, below_first id ids, first)

  pub reasons_below : (earliest times : List ℕ) (activities : List Activity)
      → All (λ activity. activity.id ≤ most) activities
      → All (λ why. named_activity why ≤ most)
      (map (λ event. reason_by earliest times event (reduce lesser (tight_among times event activities)))
      (range_with_len 0 (length times)))
  reasons_below earliest times activities small k d inside =
      let f : ℕ → Reason = λ event. reason_by earliest times event
      (reduce lesser (tight_among times event activities)) in
      let within : k < length times = omega (arith, inside, length-map-range_with_len f 0 (length times)) in
      let here : 0 + k ≡ k = omega arith in
      subst (λ why. named_activity why ≤ most) (sym (get_or-map-range_with_len f 0 (length times) k k d within here))
      (elim (nat_eq (time_at times k) (get_or earliest k 0)) as
      (λ b. named_activity (cond b reason.Source
      (by_activity (reduce lesser (tight_among times k activities)))) ≤ most) [
        | true ↦ omega arith
        | false ↦ named_below (tight_among times k activities)
            (All-map (λ id. id ≤ most) (λ (activity : Activity). activity.id)
            (filter (λ activity. is_tight times k activity.step) activities)
            (All-filter (λ activity. is_tight times k activity.step) (λ activity. activity.id ≤ most) activities small))
      ])

-- made of the parts of a problem they are the canonical ones
module _ (problem : DelayProblem) (kept : List Bool) (earliest times : List ℕ) (activities : List Activity)
    (from : earliest ≡ problem.earliest) (are : activities ≡ problem.rides ++ chosen_changes problem kept)
    (each : length times ≡ length problem.events) where
  pub canonical_told : {A E : Type 0} (view : A → List Reason) (result : Result A E)
      → IfOk result (λ reasons. view reasons ≡ map (λ event. reason_by earliest times event
      (reduce lesser (tight_among times event activities))) (range_with_len 0 (length times)))
      → IfOk result (λ reasons. view reasons ≡ canonical_reasons problem (chosen_changes problem kept) times)
  unfolding canonical_reasons
  canonical_told view (Ok reasons) told =
      told ∙ (λ i. map (λ event. reason_by (from i) times event (reduce lesser (tight_among times event (are i))))
      (range_with_len 0 (each i)))
  canonical_told view (Err error) told = tt

  pub ids_told : {A E : Type 0} (view : A → List Reason) (result : Result A E)
      → All (λ activity. activity.id ≤ 500000) activities
      → IfOk result (λ reasons. view reasons ≡ map (λ event. reason_by earliest times event
      (reduce lesser (tight_among times event activities))) (range_with_len 0 (length times)))
      → IfOk result (λ reasons. All (λ why. named_activity why ≤ 500000) (view reasons))
  ids_told view (Ok reasons) small told =
      subst (All (λ why. named_activity why ≤ 500000)) (sym told) (reasons_below 500000 earliest times activities small)
  ids_told view (Err error) small told = tt

pub few_told : (earliest times : List ℕ) (activities : List Activity) → length times ≤ 100000
    → {A E : Type 0} (view : A → List Reason) (result : Result A E)
    → IfOk result (λ reasons. view reasons ≡ map (λ event. reason_by earliest times event
    (reduce lesser (tight_among times event activities))) (range_with_len 0 (length times)))
    → IfOk result (λ reasons. length (view reasons) ≤ 100000)
few_told earliest times activities few view (Ok reasons) told =
    grind (arith, length-map-range_with_len)
few_told earliest times activities few view (Err error) told = tt
