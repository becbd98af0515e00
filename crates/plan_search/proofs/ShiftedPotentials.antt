-- Potentials that are lowered and raised one by one.
use Rattle.plan_num.proofs.Common.{◌≡◌, ℕ, ◌<◌, ◌+◌, ◌-◌, cond, List, length, slice_set, Option}
use Rattle.plan_num.proofs.Common.{sym, subst, arith}
use Rattle.link_plans.proofs.Common.{PotentialParts, at, AreOver}
use Rattle.plan_search.specs.Claims.{ClaimsParts}
use Rattle.plan_search.specs.Growing.{in_tree, is_claimed, AreShifted}
use Rattle.plan_search.proofs.WrittenLists.{IsTold, told_on}

abbrev lower_one : ℕ → List (Option ℕ) → ClaimsParts → ℕ → ℕ → ℕ → ℕ
lower_one trip plan claims slack i own = cond (in_tree trip plan claims i) (own - slack) own

abbrev raise_one : ClaimsParts → ℕ → ℕ → ℕ → ℕ
raise_one claims slack j own = cond (is_claimed claims j) (own + slack) own

pub record AreLowered (trip : ℕ) (plan : List (Option ℕ)) (claims : ClaimsParts) (slack : ℕ)
    (old now : PotentialParts) (done : ℕ) : Type 0 where
  pub told : IsTold 0 (λ i. lower_one trip plan claims slack i (at old.u i)) old.u now.u done
  pub v : now.v ≡ old.v

pub record AreRaised (claims : ClaimsParts) (slack : ℕ) (old now : PotentialParts) (done : ℕ) : Type 0 where
  pub told : IsTold 0 (λ j. raise_one claims slack j (at old.v j)) old.v now.v done
  pub u : now.u ≡ old.u

pub lower_start : (trip : ℕ) (plan : List (Option ℕ)) (claims : ClaimsParts) (slack : ℕ) (old : PotentialParts)
    → AreLowered trip plan claims slack old old 0
lower_start trip plan claims slack old = grind arith

pub lower_more : (trip : ℕ) (plan : List (Option ℕ)) (claims : ClaimsParts) (slack : ℕ) (old now after : PotentialParts)
    (done x : ℕ) → AreLowered trip plan claims slack old now done → done < length old.u
    → x ≡ lower_one trip plan claims slack done (at now.u done)
    → after ≡ record { u = slice_set now.u done x; v = now.v }
    → AreLowered trip plan claims slack old after (done + 1)
lower_more trip plan claims slack old now after done x are inside is e =
    subst (λ p. AreLowered trip plan claims slack old p (done + 1)) (sym e) (record {
      told = told_on 0 (lower_one trip plan claims slack) old.u now.u done x are.told
          (omega (arith, inside, are.told.each)) is;
      v = are.v;
    })

pub raise_start : (claims : ClaimsParts) (slack : ℕ) (old : PotentialParts) → AreRaised claims slack old old 0
raise_start claims slack old = grind arith

pub raise_more : (claims : ClaimsParts) (slack : ℕ) (old now after : PotentialParts) (done x : ℕ)
    → AreRaised claims slack old now done → done < length old.v
    → x ≡ raise_one claims slack done (at now.v done)
    → after ≡ record { u = now.u; v = slice_set now.v done x }
    → AreRaised claims slack old after (done + 1)
raise_more claims slack old now after done x are inside is e =
    subst (λ p. AreRaised claims slack old p (done + 1)) (sym e) (record {
      told = told_on 0 (raise_one claims slack) old.v now.v done x are.told
          (omega (arith, inside, are.told.each)) is;
      u = are.u;
    })

-- what is over so many trips still is
pub lowered_over : (trip : ℕ) (plan : List (Option ℕ)) (claims : ClaimsParts) (slack count : ℕ)
    (old now : PotentialParts) (done : ℕ) → AreLowered trip plan claims slack old now done
    → AreOver count old → AreOver count now
lowered_over trip plan claims slack count old now done are over = grind arith

pub raised_over : (claims : ClaimsParts) (slack count : ℕ) (old now : PotentialParts) (done : ℕ)
    → AreRaised claims slack old now done → AreOver count old → AreOver count now
raised_over claims slack count old now done are over = grind arith

pub unshifted : (trip : ℕ) (plan : List (Option ℕ)) (claims : ClaimsParts) (slack count : ℕ)
    (potentials : PotentialParts) → slack ≡ 0 → AreOver count potentials
    → AreShifted trip plan claims slack count potentials potentials
unshifted trip plan claims slack count potentials none over = grind arith
