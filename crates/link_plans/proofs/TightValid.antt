-- Potentials that cover all links are valid for a plan that is tight for them.
use Rattle.plan_num.proofs.Common.{◌≡◌, ℕ, ℤ, pos, ◌+◌, ◌≤ℤ◌, true, List, is_some, Option, Some}
use Rattle.plan_num.proofs.Common.{None, IfSome, unwrap_or, sym, ◌∙◌, arith, false≢true}
use Rattle.link_plans.specs.Plans.{IsPlan}
use Rattle.link_plans.specs.Links.{Links}
use Rattle.link_plans.specs.Potentials.{PotentialParts, at, AreOver, AreValid, IsTight}
use Rattle.link_plans.proofs.TightGains.{tight_gains}

covered_by : (gain : Option ℤ) (most : ℕ) → is_some gain ≡ true → IfSome gain (λ value. value ≤ℤ pos most)
    → unwrap_or gain (pos 0) ≤ℤ pos most
covered_by None most there covered = absurd (false≢true there)
covered_by (Some value) most there covered = covered

none_before : (k : ℕ) → k ≡ 0 + k
none_before k = omega arith

pub tight_valid : (links : Links) (plan : List (Option ℕ)) (potentials : PotentialParts)
    → AreOver links.count potentials
    → ((i j : ℕ) → IfSome (links.gain i j) (λ gain. gain ≤ℤ pos (at potentials.u i + at potentials.v j)))
    → IsPlan links plan → IsTight links potentials plan → AreValid links plan potentials
tight_valid links plan potentials over covered is tight = record {
  over = over;
  covered = covered;
  exact = sym (tight_gains links.gain 0 plan potentials.u potentials.v
      (record {
        size = over.each_u ∙ sym is.each;
        once = is.once;
        covered = λ k j e. grind (arith, unwrap_or, none_before, covered_by);
      })
      (record {
        linked = λ k j e. grind (arith, unwrap_or, none_before);
        last = λ k h e. tight.last k e;
        first = tight.first;
      }));
}
