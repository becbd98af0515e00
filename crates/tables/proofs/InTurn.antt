-- Faults that are looked for one after the other, and lists that are too long.
use Rattle.plan_num.proofs.Common.{◌≡◌, ℕ, ◌<◌, ◌≤◌, arith, List, [], ◌∷◌, length, refl, ap}
use Rattle.tables.specs.declared.counted.Counted.{Counted}
use Rattle.tables.specs.declared.refusal.Refusal.{Refusal}
use Rattle.tables.specs.declared.refusal.Refusal.TheVariants as refusal
use Rattle.tables.specs.declared.refusal.StageFault.{StageFault}
use Rattle.tables.specs.declared.refusal.StageFault.TheVariants as stage
use Rattle.tables.specs.Inputs.{Refuses, or_else, row_limit, limit_faults}

-- what is refused of some faults is refused of them before others
pub refused_before : (all others : List Refusal) (fault : StageFault) → Refuses all fault
    → Refuses (or_else all others) fault
refused_before [] others (stage.Refused reason) h = cc
refused_before (first ∷ more) others (stage.Refused reason) h = h
refused_before all others stage.NoMemory h = tt

-- faults after none
pub after_none : (all others : List Refusal) → all ≡ [] → or_else all others ≡ others
after_none all others none = ap (λ some. or_else some others) none

-- where there is no fault there is none of the first ones, and none of the others
pub none_first : (all others : List Refusal) → or_else all others ≡ [] → all ≡ []
none_first [] others none = refl
none_first (first ∷ more) others none = none

pub none_after : (all others : List Refusal) → or_else all others ≡ [] → others ≡ []
none_after [] others none = none
none_after (first ∷ more) others none = absurd (cc)

module _ {X : Type 0} (what : Counted) (most : ℕ) (rows : List X) where
  -- a list that is too long is refused with its length
  pub over_limit : (count : ℕ) → count ≡ length rows → most < count
      → limit_faults (row_limit what most ∷ []) rows ≡ refusal.TooMany what count ∷ []
  over_limit count is over = grind arith

  -- and one that is not, is not
  pub under_limit : length rows ≤ most → limit_faults (row_limit what most ∷ []) rows ≡ []
  under_limit few = grind arith
