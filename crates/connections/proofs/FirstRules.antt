-- The first rule that is broken, by the tests of all.
use Rattle.plan_num.proofs.Common.{◌≡◌, ℤ, ◌||◌, Bool, true, false, not, ◌++◌, Option, Some, refl}
use Rattle.plan_num.proofs.Common.{then_some, slice_get, both_ways}
use Rattle.connections.specs.declared.found.Found.{Found}
use Rattle.connections.specs.declared.rule.JourneyRule.{JourneyRule}
use Rattle.connections.specs.declared.rule.JourneyRule.TheVariants as rule
use Rattle.connections.specs.Earliest.{is_rising}
use Rattle.connections.specs.Nets.{JourneyParts}
use Rattle.connections.specs.Judged.{broken_where, first_broken_rule, has_arrival, is_astray, is_no_journey}
use Rattle.connections.specs.Judged.{misses_start, misses_step}

first_of : Bool → Bool → Bool → Bool → Option JourneyRule
first_of a b c d = slice_get (broken_where a rule.Journey ++ broken_where b rule.Start
    ++ broken_where c rule.Step ++ broken_where d rule.Early) 0

first : (a b c d : Bool) → a ≡ true → Some rule.Journey ≡ first_of a b c d
unfolding first_of
first true b c d is = refl
first false b c d is = absurd (both_ways false refl is)

second : (a b c d : Bool) → a ≡ false → b ≡ true → Some rule.Start ≡ first_of a b c d
unfolding first_of
second false true c d not_first is = refl
second false false c d not_first is = absurd (both_ways false refl is)
second true b c d not_first is = absurd (both_ways true not_first refl)

third : (a b c d : Bool) → a ≡ false → b ≡ false → c ≡ true → Some rule.Step ≡ first_of a b c d
unfolding first_of
third false false true d not_first not_second is = refl
third false false false d not_first not_second is = absurd (both_ways false refl is)
third false true c d not_first not_second is = absurd (both_ways true not_second refl)
third true b c d not_first not_second is = absurd (both_ways true not_first refl)

last : (a b c d : Bool) → a ≡ false → b ≡ false → c ≡ false
    → then_some d rule.Early ≡ first_of a b c d
unfolding first_of
last false false false true not_first not_second not_third = refl
last false false false false not_first not_second not_third = refl
last false false true d not_first not_second not_third = absurd (both_ways true not_third refl)
last false true c d not_first not_second not_third = absurd (both_ways true not_second refl)
last true b c d not_first not_second not_third = absurd (both_ways true not_first refl)

module _ (net : JourneyParts) (from to start : ℤ) (found : Found) where
  abbrev breaks : Bool
  breaks = is_no_journey net from to start found.journey || is_astray net found.journey
      || is_astray net found.reached || not (is_rising found.reached)

  abbrev starts : Bool
  starts = misses_start net from start found

  abbrev steps : Bool
  steps = misses_step net found

  abbrev arrives : Bool
  arrives = has_arrival net to found

  pub is_journey_first : breaks ≡ true → Some rule.Journey
      ≡ first_broken_rule net from to start found
  unfolding first_broken_rule first_of
  is_journey_first = first breaks starts steps arrives

  pub is_start_first : breaks ≡ false → starts ≡ true
      → Some rule.Start ≡ first_broken_rule net from to start found
  unfolding first_broken_rule first_of
  is_start_first = second breaks starts steps arrives

  pub is_step_first : breaks ≡ false → starts ≡ false → steps ≡ true
      → Some rule.Step ≡ first_broken_rule net from to start found
  unfolding first_broken_rule first_of
  is_step_first = third breaks starts steps arrives

  pub is_last : breaks ≡ false → starts ≡ false → steps ≡ false
      → then_some arrives rule.Early ≡ first_broken_rule net from to start found
  unfolding first_broken_rule first_of
  is_last = last breaks starts steps arrives
