-- Where the things of each place begin, one place after the other.
use Rattle.plan_num.proofs.Common.{◌≡◌, ℕ, ◌+◌, List, [], ◌∷◌, ◌++◌, length, get_or, ap, arith}
use Rattle.plan_num.proofs.Common.{get_or-append_seam, get_or_append_left, length_push}
use Rattle.delay_trials.specs.ChangeEnds.{AreFirst, IsFirst}
use Rattle.bit_rows.proofs.Cases.{by_less}

module _ {X : Type 0} (key : X → ℕ) (xs : List X) (least : ℕ → ℕ) where
  pub no_first : (firsts : List ℕ) → firsts ≡ [] → AreFirst key xs least 0 firsts
  no_first firsts none = record { each = ap length none; first = λ k less. absurd (omega (arith, less)) }

  pub one_first : (count first : ℕ) (old new : List ℕ) → AreFirst key xs least count old
      → IsFirst key xs (least count) first → new ≡ old ++ first ∷ [] → AreFirst key xs least (count + 1) new
  one_first count first old new are is pushed = grind (
    arith,
    length_push,
    by_less,
    get_or_append_left,
    get_or,
    get_or-append_seam,
  )
