-- What a plan costs, by the gains of its links.
use Rattle.plan_num.proofs.Common.{◌≡◌, ℕ, ℤ, suc, pos, ◌+◌, ◌*◌, ◌<◌, ◌≤◌, ◌+ℤ◌, ◌-ℤ◌, true, false}
use Rattle.plan_num.proofs.Common.{not, ◌-◌, List, [], ◌∷◌, length, drop, is_some, Option, Some}
use Rattle.plan_num.proofs.Common.{None, option_map, unwrap_or, refl, ap, sym, ◌∙◌, subst, arith}
use Rattle.plan_num.proofs.Common.{ints, drop_all}
use Rattle.vehicle_model.specs.Plans.{starts, plan_minutes, plan_cost}
use Rattle.link_plans.proofs.Common.{next, is_next, plan_links, plan_gain, IsPlan, count, but_one}
use Rattle.link_plans.proofs.Common.{all_count, one_less, some_of, never_next, links_from}
use Rattle.link_plans.proofs.Common.{gains_from, minutes_from, gains_more, minutes_more}
use Rattle.link_plans.proofs.Common.{alone_count, alone_minutes, linked_count, linked_minutes}
use Rattle.vehicle_model.specs.Trips.{TripsParts, link_minutes, gain_of, links_of}
use Rattle.vehicle_model.proofs.Following.{links_within, gain_there}

-- ---- vehicles and links are as many as trips

-- what is known of successors out of so many trips
record AreApart (n : ℕ) (plan : List (Option ℕ)) : Type 0 where
  within : (i j : ℕ) → next plan i ≡ Some j → j < n
  once : (i other j : ℕ) → next plan i ≡ Some j → next plan other ≡ Some j → i ≡ other

rest_apart : (n : ℕ) (at : Option ℕ) (plan : List (Option ℕ)) → AreApart n (at ∷ plan) → AreApart n plan
rest_apart n at plan are = record {
  within = λ i j e. are.within (suc i) j e;
  once = λ i other j e f. omega (arith, are.once (suc i) (suc other) j e f);
}

free_and_linked : (n from : ℕ) (plan : List (Option ℕ)) → AreApart n plan
    → count (λ k. not (is_next plan k)) 0 n + length (links_from from plan) ≡ n
free_and_linked n from [] are = omega (arith, all_count (λ k. true) 0 n (λ k. refl))
free_and_linked n from (None ∷ plan) are = free_and_linked n (from + 1) plan (rest_apart n None plan are)
free_and_linked n from (Some j ∷ plan) are =
    let new : is_next plan j ≡ false = never_next plan j
    (λ i e. absurd (omega (arith, are.once (suc i) 0 j e refl))) in
    let less : count (but_one (is_next plan) j) 0 n + 1 ≡ count (λ k. not (is_next plan k)) 0 n =
    one_less (is_next plan) j 0 n (omega arith) (omega (arith, are.within 0 j refl)) new in grind (
      arith,
      count,
      links_from,
      rest_apart,
      free_and_linked n (from + 1) plan (rest_apart n (Some
          j) plan are),
    )

-- ---- minutes and gains

gain_and_minutes : (trips : TripsParts) (from : ℕ) (plan : List (Option ℕ))
    → ((i j : ℕ) → next plan i ≡ Some j → is_some (link_minutes trips (from + i) j) ≡ true)
    → gains_from (links_of trips).gain from plan
    ≡ pos (trips.vehicle * length (links_from from plan))
    -ℤ pos (trips.empty * minutes_from (link_minutes trips) from plan)
gain_and_minutes trips from [] may = omega (arith, ints)
gain_and_minutes trips from (None ∷ plan) may =
    gain_and_minutes trips (from + 1) plan
    (λ i j e. subst (λ k. is_some (link_minutes trips k j) ≡ true) (shifted from i) (may (suc i) j e))
  where
    shifted : (a b : ℕ) → a + suc b ≡ (a + 1) + b
    shifted a b = omega arith
gain_and_minutes trips from (Some j ∷ plan) may =
    let has = some_of (link_minutes trips from j)
    (subst (λ k. is_some (link_minutes trips k j) ≡ true) (plain from) (may 0 j refl)) in
    let value : unwrap_or (link_minutes trips from j) 0 ≡ has.0 = ap (λ at. unwrap_or at 0) has.1 in
    let gain : unwrap_or ((links_of trips).gain from j) (pos 0) ≡ gain_of trips has.0 =
    ap (λ at. unwrap_or (option_map (gain_of trips) at) (pos 0)) has.1 in
    let rest : gains_from (links_of trips).gain (from + 1) plan
    ≡ pos (trips.vehicle * length (links_from (from + 1) plan))
    -ℤ pos (trips.empty * minutes_from (link_minutes trips) (from + 1) plan) =
    gain_and_minutes trips (from + 1) plan
    (λ i k e. subst (λ at. is_some (link_minutes trips at k) ≡ true) (shifted from i) (may (suc i) k e)) in
    gains_more (links_of trips).gain from j plan
    ∙ added (links_from (from + 1) plan) has.0 (minutes_from (link_minutes trips) (from + 1) plan) gain rest
    (minutes_more (link_minutes trips) from j plan
    ∙ ap (λ m. m + minutes_from (link_minutes trips) (from + 1) plan) value)
  where
    plain : (a : ℕ) → a + 0 ≡ a
    plain a = omega arith

    shifted : (a b : ℕ) → a + suc b ≡ (a + 1) + b
    shifted a b = omega arith

    added : (links : List (ℕ × ℕ)) (minutes before : ℕ) {gain rest : ℤ} {all : ℕ}
        → gain ≡ gain_of trips minutes
        → rest ≡ pos (trips.vehicle * length links) -ℤ pos (trips.empty * before)
        → all ≡ minutes + before
        → gain +ℤ rest ≡ pos (trips.vehicle * suc (length links)) -ℤ pos (trips.empty * all)
    added links minutes before {gain} {rest} {all} e f g =
        let more : trips.empty * all ≡ trips.empty * minutes + trips.empty * before =
        ap (λ m. trips.empty * m) g ∙ omega arith in
        let one : trips.vehicle * suc (length links) ≡ trips.vehicle + trips.vehicle * length links = omega arith in
        omega (arith, ints, e, f, more, one)

-- ---- plans

-- vehicles and links of a plan are as many as its trips
pub starts_and_links : (trips : TripsParts) (plan : List (Option ℕ)) → IsPlan (links_of trips) plan
    → length (starts plan) + length (plan_links plan) ≡ length trips.trips
starts_and_links trips plan is = free_and_linked (length plan) 0 plan (record {
  within = λ i j e. omega (arith, is.each, (links_within trips i j (is.follow i j e)).1);
  once = is.once;
}) ∙ is.each

-- what a plan costs is what all trips cost alone, less what its links gain
pub cost_by_gain : (trips : TripsParts) (plan : List (Option ℕ)) → IsPlan (links_of trips) plan
    → pos (plan_cost trips plan) ≡ pos (trips.vehicle * length trips.trips) -ℤ plan_gain (links_of trips) plan
cost_by_gain trips plan is =
    let count = starts_and_links trips plan is in
    let all : trips.vehicle * length trips.trips
    ≡ trips.vehicle * length (starts plan) + trips.vehicle * length (plan_links plan) =
    ap (λ n. trips.vehicle * n) (sym count) ∙ omega arith in
    let gain : plan_gain (links_of trips) plan ≡ pos (trips.vehicle * length (plan_links plan))
    -ℤ pos (trips.empty * plan_minutes trips plan) =
    gain_and_minutes trips 0 plan (λ i j e. subst (λ k. is_some (link_minutes trips k j) ≡ true) (plain i)
    (sym (gain_there trips i j) ∙ is.follow i j e)) in
    omega (arith, ints, all, gain)
  where
    plain : (a : ℕ) → a ≡ 0 + a
    plain a = omega arith

-- ---- trip by trip

-- the links and the minutes before a trip, with those from there on, are those of the plan; and they
-- are few
pub record AreSumsBefore (trips : TripsParts) (plan : List (Option ℕ)) (i links minutes : ℕ) : Type 0 where
  pub count : links + length (links_from i (drop i plan)) ≡ length (plan_links plan)
  pub sum : minutes + minutes_from (link_minutes trips) i (drop i plan) ≡ plan_minutes trips plan
  pub few : links ≤ i
  pub small : minutes ≤ i * 10000000000000

module _ (trips : TripsParts) (plan : List (Option ℕ)) (i links minutes : ℕ)
    (sums : AreSumsBefore trips plan i links minutes) where
  module _ (within : i < length plan) where
    pub over_link : (j value : ℕ) → next plan i ≡ Some j → link_minutes trips i j ≡ Some value
        → value ≤ 10000000000000 → AreSumsBefore trips plan (i + 1) (links + 1) (minutes + value)
    over_link j value is has few = record {
      count = omega (arith, sums.count, linked_count (link_minutes trips) plan i within j is);
      sum = omega (arith, sums.sum, linked_minutes (link_minutes trips) plan i within j value is has);
      few = omega (arith, sums.few);
      small = omega (arith, sums.small, few);
    }

    pub over_last : next plan i ≡ None → AreSumsBefore trips plan (i + 1) links minutes
    over_last is = grind (arith, count, alone_count, alone_minutes)

  -- behind the last trip they are those of the plan, so the cost is that of the plan
  pub all_cost : IsPlan (links_of trips) plan → length plan ≤ i → (all : ℕ)
      → all ≡ length trips.trips
      → trips.vehicle * (all - links) + trips.empty * minutes ≡ plan_cost trips plan
  all_cost is past all counted =
      grind (arith, drop_all, links_from, minutes_from, starts_and_links, count)
