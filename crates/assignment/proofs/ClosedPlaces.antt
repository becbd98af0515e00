-- Potentials that are shifted along a closed set of places: where a trip's own place is outside and
-- another one inside, no tight plan that agrees with this one on what is decided gives it the other
-- one.
use Rattle.plan_num.proofs.Common.{◌≡◌, ℕ, ℤ, pos, ◌+◌, ◌-◌, ◌<◌, ◌≤◌, nat_lt, Bool, true, false}
use Rattle.plan_num.proofs.Common.{List, sum, Option, Some, None, unwrap_or, refl, ap, sym, ◌∙◌}
use Rattle.plan_num.proofs.Common.{arith, lt-ltb, le-ltb, ints, get_or_past}
use Rattle.link_plans.proofs.Common.{Links, next, is_next, IsPlan, by_number, not_next, never_next}
use Rattle.link_plans.proofs.Common.{gains_from, PotentialParts, at, AreOver, IsTight, by_bound}
use Rattle.link_plans.proofs.Common.{AreCovering, AreTight, tight_gains, then_tight, place_of}
use Rattle.link_plans.proofs.Common.{has_next, values, values_at, values_size, values_past}
use Rattle.plan_search.specs.Searches.{IsTightAt}
use Rattle.assignment.specs.Choices.{IsUndecided, AgreeBefore, AreWithin}

-- a set of places, as 1 for each of them: with the place of an undecided trip it has all undecided
-- ones at which the trip is tight, and with one that has no trip all undecided ones that need none
pub record IsClosed (links : Links) (potentials : PotentialParts) (plan : List (Option ℕ)) (low : ℕ)
    (w : ℕ → ℕ) : Type 0 where
  pub one : (place : ℕ) → w place ≤ 1
  pub by : (i place : ℕ) → low ≤ i → i < links.count → place ≤ links.count
      → IsUndecided plan low place
      → IsTightAt links potentials i place → w (place_of links.count (next plan i)) ≤ w place
  pub alone : (from place : ℕ) → from ≤ links.count → is_next plan from ≡ false
      → place ≤ links.count
      → IsUndecided plan low place → at potentials.v place ≡ 0 → w from ≤ w place

-- which places are decided
pub record AreDecided (plan : List (Option ℕ)) (low : ℕ) (decided : ℕ → Bool) : Type 0 where
  pub has : (place : ℕ) → decided place ≡ true → (i : ℕ) × ((i < low) × (next plan i ≡ Some place))
  pub not : (place : ℕ) → decided place ≡ false → IsUndecided plan low place

module _ (links : Links) (potentials : PotentialParts) (plan : List (Option ℕ)) (low : ℕ)
    (w : ℕ → ℕ)
    (decided : ℕ → Bool) (are : AreDecided plan low decided) (over : AreOver links.count potentials)
    (possible : IsPlan links plan) (inside : AreWithin links plan)
    (tight : IsTight links potentials plan)
    (closed : IsClosed links potentials plan low w) where
  -- the place of a trip
  abbrev own : ℕ → ℕ
  own i = place_of links.count (next plan i)

  -- the shifted potentials: what is decided keeps its own
  abbrev shift_u : Bool → ℕ → ℕ → ℕ → ℕ
  shift_u true old last here = old
  shift_u false old last here = (old + last) - here

  abbrev shift_v : Bool → ℕ → ℕ → ℕ → ℕ
  shift_v true old last here = old
  shift_v false old last here = (old + here) - last

  new_u : ℕ → ℕ
  new_u i = shift_u (nat_lt i low) (at potentials.u i) (w links.count) (w (own i))

  new_v : ℕ → ℕ
  new_v place = shift_v (decided place) (at potentials.v place) (w links.count) (w place)

  u : List ℕ
  u = values links.count new_u

  v : List ℕ
  v = values links.count new_v

  -- behind all trips there is no trip, and this place is undecided
  last_undecided : IsUndecided plan low links.count
  last_undecided i e = grind arith

  -- and needs no trip
  last_zero : at potentials.v links.count ≡ 0
  last_zero = get_or_past potentials.v links.count 0 (omega (arith, over.each_v))

  -- what a decided trip and a decided place keep
  u_kept : (i : ℕ) → i < low → i < links.count → at u i ≡ at potentials.u i
  unfolding u new_u
  u_kept i h within = values_at links.count new_u i within
      ∙ ap (λ b. shift_u b (at potentials.u i) (w links.count) (w (own i))) (lt-ltb i low h)

  -- and what the others get
  u_moved : (i : ℕ) → low ≤ i → i < links.count → at u i ≡ (at potentials.u i + w links.count) - w
      (own i)
  unfolding u new_u
  u_moved i h within = values_at links.count new_u i within
      ∙ ap (λ b. shift_u b (at potentials.u i) (w links.count) (w (own i))) (le-ltb i low h)

  v_kept : (place : ℕ) → decided place ≡ true → place < links.count → at v place ≡ at potentials.v
      place
  unfolding v new_v
  v_kept place h within = values_at links.count new_v place within
      ∙ ap (λ b. shift_v b (at potentials.v place) (w links.count) (w place)) h

  v_moved : (place : ℕ) → decided place ≡ false → place < links.count
      → at v place ≡ (at potentials.v place + w place) - w links.count
  unfolding v new_v
  v_moved place h within = values_at links.count new_v place within
      ∙ ap (λ b. shift_v b (at potentials.v place) (w links.count) (w place)) h

  -- the shift takes no potential below 0
  here_bound : (i : ℕ) → low ≤ i → i < links.count → w (own i) ≤ at potentials.u i + w links.count
  here_bound i h within = by_number (at potentials.u i) 0
      (λ zero. omega (
        arith,
        closed.by i links.count h within (omega arith) last_undecided (record {
          linked = λ before. absurd (omega (arith, before));
          last = λ past. zero;
        }),
      ))
      (λ apart. omega (arith, closed.one (own i), apart))

  -- behind all trips there is none
  last_free : is_next plan links.count ≡ false
  last_free = never_next plan links.count (λ i e. past (inside i links.count e))
    where
      past : links.count < links.count → ⊥
      past h = omega (arith, h)

  -- nor that of a place
  last_bound : (place : ℕ) → place < links.count → decided place ≡ false
      → w links.count ≤ at potentials.v place + w place
  last_bound place within h = grind (arith, by_number, v, last_free)

  -- a trip and a place together rise where the place comes into the set
  pair_moved : (i j : ℕ) → low ≤ i → i < links.count → j < links.count → decided j ≡ false
      → at u i + at v j + w (own i) ≡ at potentials.u i + at potentials.v j + w j
  pair_moved i j h within before free = grind (arith, u_moved, v_moved, here_bound, last_bound)

  -- ---- a tight plan that agrees on what is decided

  module _ (other : List (Option ℕ)) (fits : IsPlan links other) (in_other : AreWithin links other)
      (other_tight : IsTight links potentials other) (agrees : AgreeBefore low plan other) where
    -- its links join trips, and keep to what is decided and what is not
    within_of : (i j : ℕ) → next other i ≡ Some j → i < links.count
    within_of i j e = omega (arith, has_next other i j e, fits.each)

    was_decided : (i j : ℕ) → next other i ≡ Some j → i < low → (b : Bool) → decided j ≡ b
        → decided j ≡ true
    was_decided i j e before true d = d
    was_decided i j e before false d = grind arith

    was_open : (i j : ℕ) → next other i ≡ Some j → low ≤ i → (b : Bool) → decided j ≡ b
        → decided j ≡ false
    was_open i j e after false d = d
    was_open i j e after true d = grind arith

    -- each trip is tight at its place
    tight_at : (i j : ℕ) → next other i ≡ Some j → IsTightAt links potentials i j
    tight_at i j e = grind arith

    -- the new potentials cover its links
    link_covered : (i j : ℕ) → next other i ≡ Some j
        → at potentials.u i + at potentials.v j ≤ at u i + at v j
    link_covered i j e = by_bound i low
        (λ before. omega (
          arith,
          u_kept i before (within_of i j e),
          v_kept j (was_decided i j e before (decided j) refl) (in_other i j e),
        ))
        (λ after.
        let free : decided j ≡ false = was_open i j e after (decided j) refl in
        omega (
          arith,
          pair_moved i j after (within_of i j e) (in_other i j e) free,
          closed.by i j after (within_of i j e) (omega (arith, in_other i j e)) (are.not j free)
              (tight_at i j e),
        ))

    gain_at : ℕ → ℕ → ℤ
    gain_at i j = unwrap_or (links.gain i j) (pos 0)

    none_before : (k : ℕ) → k ≡ 0 + k
    none_before k = omega arith

    -- what its links gain
    gain_is : (i j : ℕ) → next other i ≡ Some j
        → unwrap_or (links.gain (0 + i) j) (pos 0) ≡ pos (at potentials.u i + at potentials.v j)
    gain_is i j e = ap (λ k. unwrap_or (links.gain k j) (pos 0)) (sym (none_before i))
        ∙ ap (λ gain. unwrap_or gain (pos 0)) (other_tight.linked i j e)

    new_covering : AreCovering links.gain 0 other u v
    unfolding u
    new_covering = grind (arith, values_size, new_u, unwrap_or, u, v, gain_is, link_covered, ints)

    old_covering : AreCovering links.gain 0 other potentials.u potentials.v
    old_covering = grind arith

    -- it gains as much as all potentials
    old_gain : gains_from links.gain 0 other ≡ pos (sum potentials.u + sum potentials.v)
    old_gain = tight_gains links.gain 0 other potentials.u potentials.v old_covering (record {
      linked = gain_is;
      last = λ k h e. other_tight.last k e;
      first = other_tight.first;
    })

  -- ---- the plan itself is tight for the shifted potentials too

  itself : AgreeBefore low plan plan
  itself i h = refl

  -- each link has kept its two potentials together
  plan_linked : (i j : ℕ) → next plan i ≡ Some j
      → at u i + at v j ≡ at potentials.u i + at potentials.v j
  plan_linked i j e =
      grind (arith, by_bound, u_kept, within_of, itself, v_kept, was_decided, pair_moved, was_open)

  -- a side without a link still has 0
  plan_last : (i : ℕ) → i < links.count → next plan i ≡ None → at u i ≡ 0
  plan_last i within e = grind (arith, by_bound, u_kept, u_moved)

  open_place : (j : ℕ) → is_next plan j ≡ false → (b : Bool) → decided j ≡ b → decided j ≡ false
  open_place j free false d = d
  open_place j free true d = absurd (not_next plan (are.has j d).0 j free (are.has j d).1.1)

  plan_first : (j : ℕ) → is_next plan j ≡ false → at v j ≡ 0
  unfolding v
  plan_first j free =
      grind (arith, by_bound, v_moved, open_place, last_undecided, last_zero, values_past, new_v)

  -- so the shifted potentials together are as much as before
  new_gain : gains_from links.gain 0 plan ≡ pos (sum u + sum v)
  new_gain = tight_gains links.gain 0 plan u v (new_covering plan possible inside tight itself)
      (record {
        linked = λ i j e. grind (arith, gain_is, itself, plan_linked);
        last = λ i h e. plan_last i (omega (arith, h, possible.each)) e;
        first = plan_first;
      })

  -- so the other plan is tight for them
  module _ (other : List (Option ℕ)) (fits : IsPlan links other) (in_other : AreWithin links other)
      (other_tight : IsTight links potentials other) (agrees : AgreeBefore low plan other) where
    other_new : AreTight links.gain 0 other u v
    other_new = grind (arith, then_tight, u, v, new_covering, old_gain, itself, new_gain)

    -- and the first undecided trip does not pass from outside the set to a place inside
    pub stays_outside : low < links.count → w (own low) ≡ 0
        → w (place_of links.count (next other low)) ≡ 1 → ⊥
    stays_outside within outside in_set = at_next (next other low) refl
      where
        at_next : (to : Option ℕ) → next other low ≡ to → ⊥
        at_next None e =
            let none : at u low ≡ 0 = other_new.last low (omega (arith, within, fits.each)) e in
            let one : w links.count ≡ 1 = sym (ap (λ at. w (place_of links.count at)) e) ∙ in_set in
            absurd (omega (arith, none, one, outside, u_moved low (omega arith) within))
        at_next (Some j) e =
            let one : w j ≡ 1 = sym (ap (λ at. w (place_of links.count at)) e) ∙ in_set in
            let new : unwrap_or (links.gain (0 + low) j) (pos 0) ≡ pos
            (at u low + at v j) = other_new.linked low j e in
            let old : unwrap_or (links.gain (0 + low) j) (pos 0) ≡ pos
            (at potentials.u low + at potentials.v j) =
            gain_is other fits in_other other_tight agrees low j e in
            let both : pos (at u low + at v j) ≡ pos (at potentials.u low + at potentials.v j) = sym
            new ∙ old in
            absurd (omega (
              arith,
              ints,
              one,
              outside,
              both,
              pair_moved low j (omega arith) within (in_other low j e)
                  (was_open other fits in_other other_tight agrees low j e (omega arith)
                  (decided j) refl),
            ))
