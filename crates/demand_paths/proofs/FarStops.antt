-- Stops by their distance.
use Rattle.plan_num.proofs.Common.{◌≡◌, ℕ, ℤ, ◌<◌, ◌≤◌, nat_eq, List, length, get_or, map}
use Rattle.plan_num.proofs.Common.{slice_get, unsigned_abs, option_map, unwrap_or, Option, Some}
use Rattle.plan_num.proofs.Common.{refl, ap, subst, sym, ◌∙◌, arith, inl, inr, list_any}
use Rattle.plan_num.proofs.Common.{range_with_len, Contains, IsNonDecreasingBy, IsPermutation}
use Rattle.plan_num.proofs.Common.{get_or-map, length-map, All-from_get_or, Contains-get_or}
use Rattle.plan_num.proofs.Common.{get_or-map-range_with_len, length-map-range_with_len}
use Rattle.plan_num.proofs.Common.{All-permutation, Contains-permutation, length_permutation}
use Rattle.plan_num.proofs.Common.{get_or_from_slice_get}
use Rattle.walks.proofs.Common.{NetworkParts, PathParts, path, paths_from}
use Rattle.plan_num.proofs.Members.{Contains-map}
use Rattle.demand_paths.specs.declared.far_stop.FarStop.{FarStop}
use Rattle.demand_paths.specs.Wanted.{distance, far_stop, goes_over, sum_where, AreByDistance, NobodyLeft}
use Rattle.demand_paths.proofs.WantedSums.{sum_where-none}

-- a stop for places where there is none
pub no_stop : FarStop
no_stop = record { distance = 0; stop = 0 }

module _ (network : NetworkParts) (from : ℕ) where
  -- the distance that the paths tell
  pub distance_told : (paths : PathParts) (stop : ℕ) (told : Option ℤ)
      → paths ≡ paths_from network from → slice_get paths.lengths stop ≡ Some told
      → unwrap_or (option_map unsigned_abs told) 0 ≡ distance network from stop
  distance_told paths stop told is there =
      grind (arith, unwrap_or, option_map, unsigned_abs, get_or_from_slice_get, get_or)

  -- all stops, sorted
  pub by_distance : (before after : List FarStop)
      → before ≡ map (far_stop network from) (range_with_len 0 (length network.stops))
      → IsPermutation before after → IsNonDecreasingBy (λ far. far.distance) after
      → AreByDistance network from after
  by_distance before after is moved rise =
      let n = length network.stops in
      let count : length before ≡ n = ap length is
      ∙ length-map-range_with_len (far_stop network from) 0 n in
      let own : (at : ℕ) → at < n → get_or before at no_stop ≡ far_stop network from at =
      λ at h. ap (λ stops. get_or stops at no_stop) is
      ∙ get_or-map-range_with_len (far_stop network from) 0 n at at no_stop h (omega arith) in
      record {
        size = length_permutation before after moved ∙ count;
        right = All-permutation (λ far. (far.stop < n)
            × (far.distance ≡ distance network from far.stop)) before after moved
            (All-from_get_or (λ far. (far.stop < n)
            × (far.distance ≡ distance network from far.stop)) before no_stop
            (λ at h. subst (λ far. (far.stop < n)
            × (far.distance ≡ distance network from far.stop))
            (sym (own at (omega arith))) (omega arith, refl)));
        all = λ to h. Contains-map (λ far. far.stop) after (far_stop network from to)
            (Contains-permutation before after (far_stop network from to) moved
            (subst (Contains before) (own to h)
            (Contains-get_or before to no_stop (omega arith))));
        rise = rise;
      }

  module _ (stops : List FarStop) (are : AreByDistance network from stops) where
    -- a later stop is no nearer
    pub no_nearer : (place later : ℕ) → place ≤ later → later < length stops
        → distance network from (get_or stops place no_stop).stop
        ≤ distance network from (get_or stops later no_stop).stop
    no_nearer place later before h = grind arith

    -- where nobody is left at any stop, nobody is left who goes over an edge
    pub all_gone : (left : List ℕ) → length left ≡ length network.stops
        → ((place : ℕ) → place < length stops
        → NobodyLeft network from left (get_or stops place no_stop).stop)
        → (index : ℕ) → sum_where (goes_over network index from) 0 left ≡ 0
    all_gone left size nobody index =
        sum_where-none (goes_over network index from) 0 left (λ i k e h.
        let same : k ≡ i = omega arith in
        let p = are.all i (omega arith) in
        let within : p.0 < length stops = omega (arith, p.1, length-map stops (λ far. far.stop)) in
        let is : (get_or stops p.0 no_stop).stop ≡ i =
        sym (get_or-map (λ far. far.stop) stops p.0 no_stop i within) ∙ p.2 in
        elim (nobody p.0 within) [
          | inl none ↦ inl (ap (λ at. get_or left at 0) (sym is) ∙ none)
          | inr short ↦ inr (ap (λ some. list_any (nat_eq index) some)
              (ap (path network from) (same ∙ sym is) ∙ short))
        ])
