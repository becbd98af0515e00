-- Lists that are written from the first place on: what is told of the places that are written, and that
-- the others are as before.
use Rattle.plan_num.proofs.Common.{◌≡◌, ℕ, ◌<◌, ◌≤◌, ◌+◌, List, length, get_or, slice_set, ap, sym}
use Rattle.plan_num.proofs.Common.{◌∙◌, subst, arith, get_or-set_same, get_or-set_other, length-set}
use Rattle.link_plans.proofs.Common.{by_number}

pub record IsTold {X : Type 0} (none : X) (told : ℕ → X) (old now : List X) (done : ℕ) : Type 0 where
  pub each : length now ≡ length old
  pub is : (i : ℕ) → i < done → get_or now i none ≡ told i
  pub left : (i : ℕ) → done ≤ i → get_or now i none ≡ get_or old i none

pub told_start : {X : Type 0} (none : X) (told : ℕ → X) (old : List X) → IsTold none told old old 0
told_start none told old = grind arith

pub told_more : {X : Type 0} (none : X) (told : ℕ → X) (old now : List X) (done : ℕ) (x : X)
    → IsTold none told old now done → done < length now → x ≡ told done
    → IsTold none told old (slice_set now done x) (done + 1)
told_more none told old now done x are inside is =
    grind (arith, length-set, by_number, get_or, slice_set, get_or-set_same, get_or-set_other)

-- the same by what the list is then
pub told_set : {X : Type 0} (none : X) (told : ℕ → X) (old now after : List X) (done : ℕ) (x : X)
    → IsTold none told old now done → done < length now → x ≡ told done → after ≡ slice_set now done x
    → IsTold none told old after (done + 1)
told_set none told old now after done x are inside is after_is =
    subst (λ list. IsTold none told old list (done + 1)) (sym after_is)
    (told_more none told old now done x are inside is)

-- the same where what is told rests on what was there
pub told_on : {X : Type 0} (none : X) (step : ℕ → X → X) (old now : List X) (done : ℕ) (x : X)
    → IsTold none (λ i. step i (get_or old i none)) old now done → done < length now
    → x ≡ step done (get_or now done none)
    → IsTold none (λ i. step i (get_or old i none)) old (slice_set now done x) (done + 1)
told_on none step old now done x are inside is =
    told_more none (λ i. step i (get_or old i none)) old now done x are inside
    (is ∙ ap (step done) (are.left done (omega arith)))

-- one place more was written, and all others are as they were
pub told_at : {X : Type 0} (none : X) (step : ℕ → X → X) (old now after : List X) (done : ℕ)
    → IsTold none (λ i. step i (get_or old i none)) old now done → length after ≡ length now
    → ((i : ℕ) → (i ≡ done → ⊥) → get_or after i none ≡ get_or now i none)
    → get_or after done none ≡ step done (get_or now done none)
    → IsTold none (λ i. step i (get_or old i none)) old after (done + 1)
told_at none step old now after done are each others here = grind arith

-- some places more at which nothing has to be written
pub told_up : {X : Type 0} (none : X) (told : ℕ → X) (old now : List X) (done more : ℕ)
    → IsTold none told old now done → done ≤ more
    → ((i : ℕ) → done ≤ i → i < more → told i ≡ get_or old i none)
    → IsTold none told old now more
told_up none told old now done more are up same = grind arith
