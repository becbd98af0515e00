-- The reasons that are made are those that are written.
use Rattle.plan_num.proofs.Common.{◌≡◌, ℕ, List, length, map, get_or, Option, None, Result, Ok, Err}
use Rattle.plan_num.proofs.Common.{IfOk, arith, range_with_len, reduce, get_or-map-range_with_len}
use Rattle.propagation.specs.declared.reason.Reason.{Reason}
use Rattle.propagation.specs.declared.step.Activity.{Activity}
use Rattle.propagation.specs.Reasons.{lesser, tight_among}
use Rattle.propagation.specs.TightIds.{reason_by}
use Rattle.propagation.proofs.Places.{told_alike}

module _ (earliest times : List ℕ) (activities : List Activity) (ids : List (Option ℕ)) where
  abbrev least_id : ℕ → Option ℕ
  least_id event = reduce lesser (tight_among times event activities)

  -- by the ids that were found
  pub told_by_ids : {A E : Type 0} (view : A → List Reason) → ids ≡ map least_id (range_with_len 0 (length times))
      → (result : Result A E)
      → IfOk result (λ reasons. view reasons ≡ map (λ event. reason_by earliest times event (get_or ids event None))
      (range_with_len 0 (length times)))
      → IfOk result (λ reasons. view reasons ≡ map (λ event. reason_by earliest times event (least_id event))
      (range_with_len 0 (length times)))
  told_by_ids view is (Ok reasons) told =
      grind (arith, told_alike, get_or, get_or-map-range_with_len)
  told_by_ids view is (Err error) told = tt
