-- A plan that is made link by link from another one.
use Rattle.plan_num.proofs.Common.{◌≡◌, ℕ, zero, suc, ◌<◌, ◌≤◌, ◌+◌, false, List, [], ◌∷◌, length}
use Rattle.plan_num.proofs.Common.{slice_set, replicate, Option, Some, None, IfSome, refl, ap, sym}
use Rattle.plan_num.proofs.Common.{◌∙◌, arith, length-set, length-replicate, none-some}
use Rattle.link_plans.specs.Plans.{next, is_next, AreSuccessors}
use Rattle.link_plans.proofs.Linking.{by_number, none_next, never_next}
use Rattle.link_plans.proofs.Certified.{by_bound}
use Rattle.link_plans.proofs.Moves.{moved_is, moved_other}

-- the first trips have their successors, and the others none yet
pub record IsCopied (full copy : List (Option ℕ)) (done : ℕ) : Type 0 where
  pub each : length copy ≡ length full
  pub same : (i : ℕ) → i < done → next copy i ≡ next full i
  pub none : (i : ℕ) → done ≤ i → next copy i ≡ None

-- none have theirs
pub none_copied : (full : List (Option ℕ)) → IsCopied full (replicate (length full) None) 0
none_copied full = grind (arith, length-replicate, none_next)

module _ (full copy : List (Option ℕ)) (done : ℕ) (is : IsCopied full copy done) where
  pub copied_waits : next copy done ≡ None
  copied_waits = is.none done (omega arith)

  module _ (inside : done < length full) where
    pub copied_within : done < length copy
    copied_within = omega (arith, inside, is.each)

    -- one trip more has its successor
    pub copied_more : (at : Option ℕ) → at ≡ next full done
        → IsCopied full (slice_set copy done at) (done + 1)
    copied_more at e =
        grind (arith, length-set, by_number, slice_set, moved_is, copied_within, moved_other)

    -- and it is no successor yet
    pub copied_fits : AreSuccessors full → (at : Option ℕ) → at ≡ next full done
        → IfSome at (λ j. (j < length copy) × (is_next copy j ≡ false))
    copied_fits are None e = tt
    copied_fits are (Some j) e = (
      omega (arith, is.each, are.within done j (sym e)),
      never_next copy j (λ i f. by_bound i done
          (λ before. absurd (omega (arith, before, are.once i done j (sym (is.same i before) ∙ f) (sym e))))
          (λ past. absurd (none-some j (sym (is.none i past) ∙ f)))),
    )

-- two lists with the same successors are the same
pub same_next : (plan other : List (Option ℕ)) → length plan ≡ length other
    → ((i : ℕ) → i < length plan → next plan i ≡ next other i) → plan ≡ other
same_next [] [] each same = refl
same_next [] (at ∷ other) each same = absurd (omega (arith, each))
same_next (at ∷ plan) [] each same = absurd (omega (arith, each))
same_next (at ∷ plan) (to ∷ other) each same =
    ap (λ x. x ∷ plan) (same 0 (omega arith))
    ∙ ap (λ rest. to ∷ rest) (same_next plan other (omega (arith, each)) (λ i h. same (suc i) (omega (arith, h))))

pub copied_all : (full copy : List (Option ℕ)) (done : ℕ) → IsCopied full copy done
    → length full ≤ done → copy ≡ full
copied_all full copy done is past = grind (arith, same_next)

-- a trip without a successor is left without one
pub set_none : (plan : List (Option ℕ)) (i : ℕ) (at : Option ℕ) → at ≡ None → next plan i ≡ None
    → plan ≡ slice_set plan i at
set_none [] i at is e = refl
set_none (first ∷ plan) zero at is e = ap (λ x. x ∷ plan) (e ∙ sym is)
set_none (first ∷ plan) (suc i) at is e = ap (λ rest. first ∷ rest) (set_none plan i at is e)
