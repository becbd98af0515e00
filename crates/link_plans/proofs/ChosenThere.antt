-- Over any links there is a plan with potentials that are valid for it.
use Rattle.plan_num.proofs.Common.{◌≡◌, ℕ, ℤ, pos, ◌+◌, ◌<◌, ◌≤◌, ◌≤ℤ◌, is_some, List, length, map}
use Rattle.plan_num.proofs.Common.{get_or, Option, Some, None, IfSome, unwrap_or, refl, ap, sym}
use Rattle.plan_num.proofs.Common.{◌∙◌, arith, range_with_len, get_or-eq_default, ints, get_or-map}
use Rattle.plan_num.proofs.Common.{length-map, get_or-range_with_len, length-range_with_len}
use Rattle.link_plans.specs.Plans.{next, IsPlan}
use Rattle.link_plans.specs.Links.{Links, AreLinks}
use Rattle.link_plans.proofs.Linking.{not_next}
use Rattle.link_plans.specs.Potentials.{PotentialParts, at, AreValid}
use Rattle.link_plans.proofs.Certified.{by_bound}
use Rattle.link_plans.proofs.TightGains.{tight_gains}
use Rattle.link_plans.proofs.TripInHand.{HasDone}
use Rattle.link_plans.proofs.LeastPotentials.{all_done}

-- a plan, and potentials that are valid for it
pub record HasValid (links : Links) : Type 0 where
  pub plan : List (Option ℕ)
  pub potentials : PotentialParts
  pub possible : IsPlan links plan
  pub valid : AreValid links plan potentials

-- a function on the numbers below one, as a list
module _ {X : Type 0} (f : ℕ → X) (n : ℕ) (default : X) where
  abbrev listed : List X
  listed = map f (range_with_len 0 n)

  pub listed_long : length listed ≡ n
  listed_long = length-map (range_with_len 0 n) f ∙ length-range_with_len 0 n

  pub listed_at : (i : ℕ) → i < n → get_or listed i default ≡ f i
  listed_at i within =
      get_or-map f (range_with_len 0 n) i 0 default (omega (arith, within, length-range_with_len 0 n))
      ∙ ap f (get_or-range_with_len 0 n i 0 within ∙ omega arith)

  pub listed_past : (i : ℕ) → n ≤ i → get_or listed i default ≡ default
  listed_past i past = get_or-eq_default listed default (omega (arith, past, listed_long))

module _ (links : Links) (sound : AreLinks links) where
  abbrev n : ℕ
  n = links.count

  abbrev gain : ℕ → ℕ → Option ℤ
  gain = links.gain

  abbrev found : HasDone gain n
  found = all_done gain n (λ i j h. (sound.within i j h).1) 1000000000000 sound.small n

  abbrev plan : List (Option ℕ)
  plan = map found.plan (range_with_len 0 n)

  abbrev potentials : PotentialParts
  potentials = record { u = map found.u (range_with_len 0 n); v = map found.v (range_with_len 0 n) }

  past_none : (i : ℕ) → n ≤ i → (at : Option ℕ) → found.plan i ≡ at → found.plan i ≡ None
  past_none i past None e = e
  past_none i past (Some j) e = absurd (omega (arith, past, (found.done.follow i j e).0))

  next_is : (i : ℕ) → next plan i ≡ found.plan i
  next_is i = grind (arith, by_bound, listed_at, listed_past, past_none)

  -- a link is between trips, and gains its potentials
  both_in : (i j : ℕ) → next plan i ≡ Some j → (i < n) × (j < n)
  both_in i j e =
      let told = found.done.follow i j (sym (next_is i) ∙ e) in grind (arith, is_some)

  gains : (i j : ℕ) → next plan i ≡ Some j
      → gain i j ≡ Some (pos (at potentials.u i + at potentials.v j))
  gains i j e = grind (arith, both_in, next_is, listed_at)

  possible : IsPlan links plan
  possible = grind (arith, listed_long, is_some, gains, next_is)

  covered_by : (i j : ℕ) (some : Option ℤ) → gain i j ≡ some
      → (i < n → IfSome some (λ g. g ≤ℤ pos (found.u i + found.v j)))
      → IfSome some (λ g. g ≤ℤ pos (at potentials.u i + at potentials.v j))
  covered_by i j None e most = tt
  covered_by i j (Some g) e most = grind (arith, is_some, listed_at)

  gain_value : (i j number : ℕ) → gain i j ≡ Some (pos number)
      → unwrap_or (gain i j) (pos 0) ≡ pos number
  gain_value i j number e = ap (λ some. unwrap_or some (pos 0)) e

  value_at : (k j : ℕ) → next plan k ≡ Some j
      → unwrap_or (gain (0 + k) j) (pos 0) ≡ pos (at potentials.u k + at potentials.v j)
  value_at k j e = grind (arith, unwrap_or, gain_value, gains)

  pub valid_there : HasValid links
  valid_there = record {
    plan = plan;
    potentials = potentials;
    possible = possible;
    valid = record {
      over = record { each_u = listed_long found.u n 0; each_v = listed_long found.v n 0 };
      covered = λ i j. covered_by i j (gain i j) refl (λ within. found.done.covered i j within);
      exact = sym (tight_gains gain 0 plan potentials.u potentials.v
          (record {
            size = listed_long found.u n 0 ∙ sym (listed_long found.plan n None);
            once = possible.once;
            covered = λ k j e. omega (arith, ints, value_at k j e);
          })
          (record {
            linked = value_at;
            last = λ k within e. grind (arith, listed_long, listed_at, next_is);
            first = λ j none. by_bound j n
                (λ inside. listed_at found.v n 0 j inside
                ∙ found.done.first j (λ i e. not_next plan i j none (next_is i ∙ e)))
                (λ past. listed_past found.v n 0 j past);
          }));
    };
  }
