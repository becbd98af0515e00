-- Faults of potentials, pair by pair; without one they are valid.
use Rattle.plan_num.proofs.Common.{◌≡◌, ◌↔◌, ℕ, ℤ, zero, suc, pos, ◌+◌, ◌*◌, ◌-◌, ◌<◌, ◌≤◌, ◌==◌}
use Rattle.plan_num.proofs.Common.{◌≤ℤ◌, int_le, not, is_some, T, Bool, true, false, cond, List, []}
use Rattle.plan_num.proofs.Common.{◌∷◌, ◌++◌, length, map, filter, slice_get, Option, Some, None}
use Rattle.plan_num.proofs.Common.{IfSome, option_map, refl, ap, sym, ◌∙◌, arith, eq-eqb, le_z_yes}
use Rattle.plan_num.proofs.Common.{flat_map, range_with_len, int_eq, false≢true, eqb-true}
use Rattle.plan_num.proofs.Common.{not-false, Decides-int_eq, T_from_true, ints, none-some}
use Rattle.plan_num.proofs.Common.{slice_get-map}
use Rattle.tables.proofs.Common.{first_append, front_none, back_none}
use Rattle.vehicle_model.specs.Plans.{plan_cost, IsCheapest}
use Rattle.link_plans.proofs.Common.{plan_gain, IsPlan, Links, PotentialParts, at, total, AreOver}
use Rattle.link_plans.proofs.Common.{AreValid, by_bound}
use Rattle.vehicle_model.specs.Trips.{TripsParts, links_of}
use Rattle.vehicle_model.proofs.Costs.{cost_by_gain}
use Rattle.vehicle_model.proofs.Following.{links_within}
use Rattle.flow_potentials.specs.declared.potential_fault.PotentialFault.{PotentialFault}
use Rattle.flow_potentials.specs.declared.potential_fault.PotentialFault.TheVariants as fault
use Rattle.flow_potentials.specs.PotentialFaults.{is_short, is_short_pair, trip_faults, pair_faults}
use Rattle.flow_potentials.specs.PotentialFaults.{sum_faults, potential_faults, TightAreCheapest}
use Rattle.flow_potentials.proofs.CheapestPlans.{certified_cheapest, tight_cheapest}
use Rattle.plan_num.proofs.Lists.{unmapped, none_first}
use Rattle.plan_num.proofs.Tests.{is_true}

-- ---- a range, number by number

range_next : (i n : ℕ) → i < n → range_with_len i (n - i) ≡ i ∷ range_with_len (i + 1) (n - (i + 1))
range_next i n within = grind arith

range_end : (i n : ℕ) → n ≤ i → range_with_len i (n - i) ≡ []
range_end i n past = grind arith

-- ---- the pairs of a trip

module _ (p : ℕ → Bool) (n i : ℕ) (so_far : filter p (range_with_len 0 n) ≡ filter p (range_with_len i (n - i))) where
  here : i < n → filter p (range_with_len 0 n) ≡ cond (p i) (i ∷ filter p (range_with_len (i + 1) (n - (i + 1))))
      (filter p (range_with_len (i + 1) (n - (i + 1))))
  here within = so_far ∙ ap (filter p) (range_next i n within)

  pub found_short : i < n → p i ≡ true → slice_get (filter p (range_with_len 0 n)) 0 ≡ Some i
  found_short within e = ap (λ some. slice_get some 0) (here within
      ∙ ap (λ b. cond b (i ∷ filter p (range_with_len (i + 1) (n - (i + 1))))
      (filter p (range_with_len (i + 1) (n - (i + 1))))) e)

  pub not_short : i < n → p i ≡ false
      → filter p (range_with_len 0 n) ≡ filter p (range_with_len (i + 1) (n - (i + 1)))
  not_short within e = here within
      ∙ ap (λ b. cond b (i ∷ filter p (range_with_len (i + 1) (n - (i + 1))))
      (filter p (range_with_len (i + 1) (n - (i + 1))))) e

  pub none_short : n ≤ i → slice_get (filter p (range_with_len 0 n)) 0 ≡ None
  none_short past = ap (λ some. slice_get some 0) (so_far ∙ ap (filter p) (range_end i n past))

-- ---- all pairs

module _ (links : Links) (potentials : PotentialParts) (i : ℕ)
    (so_far : pair_faults links potentials ≡ flat_map (trip_faults links potentials)
    (range_with_len i (links.count - i))) where
  pairs_here : i < links.count → pair_faults links potentials
      ≡ trip_faults links potentials i ++ flat_map (trip_faults links potentials)
      (range_with_len (i + 1) (links.count - (i + 1)))
  pairs_here within = so_far ∙ ap (flat_map (trip_faults links potentials)) (range_next i links.count within)

  pub pair_found : (plan : List (Option ℕ)) (j : ℕ) → i < links.count
      → slice_get (filter (is_short_pair links potentials i) (range_with_len 0 links.count)) 0 ≡ Some j
      → slice_get (potential_faults links plan potentials) 0 ≡ Some (fault.Pair i j)
  unfolding potential_faults
  pair_found plan j within first =
      first_append (pair_faults links potentials) (sum_faults links plan potentials) (fault.Pair i j)
      (ap (λ all. slice_get all 0) (pairs_here within)
      ∙ first_append (trip_faults links potentials i)
      (flat_map (trip_faults links potentials) (range_with_len (i + 1) (links.count - (i + 1)))) (fault.Pair i j)
      (slice_get-map (fault.Pair i) (filter (is_short_pair links potentials i) (range_with_len 0 links.count)) 0
      ∙ ap (option_map (fault.Pair i)) first))

  pub no_pair : i < links.count
      → slice_get (filter (is_short_pair links potentials i) (range_with_len 0 links.count)) 0 ≡ None
      → pair_faults links potentials ≡ flat_map (trip_faults links potentials)
      (range_with_len (i + 1) (links.count - (i + 1)))
  no_pair within none = grind (arith, pairs_here, none_first)

  pub all_pairs : links.count ≤ i → pair_faults links potentials ≡ []
  all_pairs past = so_far ∙ ap (flat_map (trip_faults links potentials)) (range_end i links.count past)

-- ---- without a fault

filter_none : (p : ℕ → Bool) (from n : ℕ) → filter p (range_with_len from n) ≡ [] → (k : ℕ) → from ≤ k → k < from + n
    → p k ≡ false
filter_none p from zero none k low high = absurd (omega (arith, low, high))
filter_none p from (suc n) none k low high = split (p from) refl none (filter_none p (from + 1) n)
  where
    split : (b : Bool) → p from ≡ b → cond b (from ∷ filter p (range_with_len (from + 1) n))
        (filter p (range_with_len (from + 1) n)) ≡ []
        → (filter p (range_with_len (from + 1) n) ≡ [] → (k : ℕ) → from + 1 ≤ k → k < from + 1 + n
        → p k ≡ false) → p k ≡ false
    split true e f rest = cc
    split false e f rest = by_bound from k (λ below. rest f k (omega (arith, below)) (omega (arith, high)))
        (λ above. let same : k ≡ from = omega (arith, above, low) in ap p same ∙ e)

none_filter : (p : ℕ → Bool) (from n : ℕ) → ((k : ℕ) → p k ≡ false) → filter p (range_with_len from n) ≡ []
none_filter p from zero none = refl
none_filter p from (suc n) none = grind (arith, none_filter p (from + 1) n none)

flat_none : {X : Type 0} (f : ℕ → List X) (from n : ℕ) → flat_map f (range_with_len from n) ≡ [] → (k : ℕ) → from ≤ k
    → k < from + n → f k ≡ []
flat_none f from zero none k low high = absurd (omega (arith, low, high))
flat_none f from (suc n) none k low high =
    by_bound from k
    (λ below. flat_none f (from + 1) n (back_none (f from) (flat_map f (range_with_len (from + 1) n)) none) k
    (omega (arith, below)) (omega (arith, high)))
    (λ above. let same : k ≡ from = omega (arith, above, low) in grind (arith, front_none))

none_flat : {X : Type 0} (f : ℕ → List X) (from n : ℕ) → ((k : ℕ) → f k ≡ []) → flat_map f (range_with_len from n) ≡ []
none_flat f from zero none = refl
none_flat f from (suc n) none =
    ap (λ first. first ++ flat_map f (range_with_len (from + 1) n)) (none from) ∙ none_flat f (from + 1) n none

covered_where : (number : ℕ) (gain : Option ℤ) → is_short number gain ≡ false
    → IfSome gain (λ value. value ≤ℤ pos number)
covered_where number None e = tt
covered_where number (Some gain) e = le_z_yes (T_from_true _ (not-false (int_le gain (pos number)) e))

where_covered : (number : ℕ) (gain : Option ℤ) → IfSome gain (λ value. value ≤ℤ pos number)
    → is_short number gain ≡ false
where_covered number None e = refl
where_covered number (Some gain) e = ap not (is_true (int_le gain (pos number)) e.le)

module _ (trips : TripsParts) (plan : List (Option ℕ)) (potentials : PotentialParts)
    (over : AreOver (length trips.trips) potentials) where
  faultless_valid : potential_faults (links_of trips) plan potentials ≡ [] → AreValid (links_of trips) plan potentials
  unfolding potential_faults
  faultless_valid none =
      let pairs = front_none (pair_faults (links_of trips) potentials)
      (sum_faults (links_of trips) plan potentials) none in
      record {
        over = over;
        covered = λ i j. by_bound i (length trips.trips)
            (λ i_in. by_bound j (length trips.trips)
            (λ j_in. covered_where (at potentials.u i + at potentials.v j) ((links_of trips).gain i j)
            (filter_none (is_short_pair (links_of trips) potentials i) 0 (length trips.trips)
            (unmapped (fault.Pair i) _
            (flat_none (trip_faults (links_of trips) potentials) 0 (length trips.trips) pairs i
            (omega arith) (omega (arith, i_in)))) j (omega arith) (omega (arith, j_in))))
            (λ j_past. nothing i j ((links_of trips).gain i j) refl
            (λ there. omega (arith, j_past, (links_within trips i j there).1))))
            (λ i_past. nothing i j ((links_of trips).gain i j) refl
            (λ there. omega (arith, i_past, (links_within trips i j there).0)));
        exact = summed (int_eq (pos (total potentials)) (plan_gain (links_of trips) plan)) refl
            (back_none (pair_faults (links_of trips) potentials) (sum_faults (links_of trips) plan potentials) none);
      }
    where
      nothing : (i j : ℕ) (gain : Option ℤ) → (links_of trips).gain i j ≡ gain
          → (is_some ((links_of trips).gain i j) ≡ true → ⊥)
          → IfSome gain (λ value. value ≤ℤ pos (at potentials.u i + at potentials.v j))
      nothing i j None e never = tt
      nothing i j (Some gain) e never = absurd (never (ap is_some e))

      summed : (b : Bool) → int_eq (pos (total potentials)) (plan_gain (links_of trips) plan) ≡ b
          → cond b [] (fault.Sum ∷ []) ≡ [] → pos (total potentials) ≡ plan_gain (links_of trips) plan
      summed true e f = (Decides-int_eq (pos (total potentials)) (plan_gain (links_of trips) plan)).0 e
      summed false e f = cc

  valid_faultless : AreValid (links_of trips) plan potentials → potential_faults (links_of trips) plan potentials ≡ []
  unfolding potential_faults
  valid_faultless valid = grind (arith, none_flat, none_filter, where_covered, Decides-int_eq)

  module _ (found : Option PotentialFault)
      (first : found ≡ slice_get (potential_faults (links_of trips) plan potentials) 0) where
    none_valid : found ≡ None → AreValid (links_of trips) plan potentials
    none_valid none = faultless_valid (none_first (potential_faults (links_of trips) plan potentials)
        (sym first ∙ none))

    pub told_valid : (found ≡ None) ↔ AreValid (links_of trips) plan potentials
    told_valid = (none_valid, (λ valid. first ∙ ap (λ all. slice_get all 0) (valid_faultless valid)))

    pub told_cheapest : IsPlan (links_of trips) plan → found ≡ None → IsCheapest trips plan
    told_cheapest is none = certified_cheapest trips plan potentials (none_valid none) is

    pub told_tight : IsPlan (links_of trips) plan → found ≡ None → TightAreCheapest trips potentials
    told_tight is none = tight_cheapest trips plan potentials (none_valid none) is

  -- the sum, by what the plan costs less than all trips alone
  module _ (is : IsPlan (links_of trips) plan) where
    sums_agree : (total potentials + plan_cost trips plan == trips.vehicle * length trips.trips)
        ≡ int_eq (pos (total potentials)) (plan_gain (links_of trips) plan)
    sums_agree = grind (arith, eqb-true, Decides-int_eq, ints, cost_by_gain, eq-eqb)

    pub told_sum : pair_faults (links_of trips) potentials ≡ [] → (exact : Bool)
        → exact ≡ (total potentials + plan_cost trips plan == trips.vehicle * length trips.trips)
        → slice_get (potential_faults (links_of trips) plan potentials) 0 ≡ cond exact None (Some fault.Sum)
    unfolding potential_faults
    told_sum pairs exact same = grind (arith, slice_get, sums_agree)
