-- The listing of a problem is right, and whole.
use Rattle.plan_num.proofs.Common.{◌≡◌, ◌∙◌, ℕ, zero, suc, ◌+◌, ◌-◌, ◌≤◌, ◌==◌, true, false, cond}
use Rattle.plan_num.proofs.Common.{◌&&◌, List, [], ◌∷◌, length, map, Option, Some, None, is_some}
use Rattle.plan_num.proofs.Common.{refl, ap, sym, arith, AllByRecursion, range_with_len, lt-ltb}
use Rattle.plan_num.proofs.Common.{length-map}
use Rattle.std.proofs.lemmas.List.FromFn.{length-range_with_len as range_length}
use Rattle.pesp.specs.Timetables.{IsProblem, IsTimetable, Problem}
use Rattle.pesp.specs.Listings.{ListingIsRight, ListingIsWhole, Tells, first_sets, listing, most_entries}
use Rattle.pesp.specs.Listings.{several_in, times_at_first}
use Rattle.pesp.proofs.FoundRight.{AreBelow, are_below, found_is}
use Rattle.pesp.proofs.GreatestSets.{reduced_greatest, reduced_loses_none, rounds_suffice}
use Rattle.pesp.proofs.ListedTimes.{found_from}
use Rattle.pesp.proofs.ShortListings.{AreFew, most, most_grows, short_from}
use Rattle.pesp.proofs.TurnedTimes.{has_first}
use Rattle.pesp.proofs.Unrolled.{unrolls}

range_below : (period from count : ℕ) → from + count ≤ period
    → are_below period (range_with_len from count) ≡ true
range_below period from zero few = refl
range_below period from (suc count) few =
    ap (λ b. b && are_below period (range_with_len (from + 1) count)) (lt-ltb from period (omega (arith, few)))
    ∙ range_below period (from + 1) count (omega (arith, few))

filter_less : (sets : List (List ℕ)) → several_in sets ≤ length sets
filter_less [] = omega arith
filter_less (set ∷ sets) = grind (arith, filter_less sets)

pub listing_whole : (problem : Problem) → ListingIsWhole problem
listing_whole problem = record {
  enough_branches = unrolls problem;
  enough_rounds = rounds_suffice problem;
  greatest = reduced_greatest problem;
}

module _ (problem : Problem) (sound : IsProblem problem) where
  abbrev period : ℕ
  period = problem.period

  -- what holds of both forms of first sets holds of each of them
  each_first : (P : List ℕ → Type 0) → P (0 ∷ []) → P (range_with_len 0 period) → (from count : ℕ)
      → AllByRecursion P (map (times_at_first period) (range_with_len from count))
  each_first P first other from zero = tt
  each_first P first other from (suc count) = (
    elim (from == 0) as (λ b. P (cond b (0 ∷ []) (range_with_len 0 period))) [
      | true ↦ first
      | false ↦ other
    ],
    each_first P first other (from + 1) count,
  )

  first_below : AreBelow period (first_sets problem)
  first_below = each_first (λ times. are_below period times ≡ true)
      (ap (λ b. b && true) (lt-ltb 0 period (omega (arith, sound.some))))
      (range_below period 0 period (omega arith)) 0 problem.events

  first_few : AreFew period (first_sets problem)
  first_few = each_first (λ times. length times ≤ period) (omega (arith, sound.some))
      (omega (arith, range_length 0 period)) 0 problem.events

  first_count : length (first_sets problem) ≡ problem.events
  first_count =
      length-map (range_with_len 0 problem.events) (times_at_first period) ∙ range_length 0 problem.events

  abbrev levels : ℕ
  levels = several_in (first_sets problem) + 1

  tells_by : (found : Option (List ℕ)) → (listing problem).found ≡ found → Tells problem found
  unfolding listing
  tells_by None none = λ times is. never times is
    where
      never : (times : List ℕ) → ¬ IsTimetable problem times
      never times is =
          let first = has_first problem sound times is in
          let some = found_from problem sound first.times first.is levels (first_sets problem) first.holds (omega arith) in
          let both : false ≡ true = sym (ap is_some none) ∙ some in
          absurd (cc)
  tells_by (Some times) found = found_is problem sound levels (first_sets problem) first_count first_below times found

  pub listing_right : ListingIsRight problem
  unfolding listing
  listing_right =
      let several = several_in (first_sets problem) in
      let few : several ≤ problem.events = omega (arith, filter_less (first_sets problem), first_count) in
      record {
        tells = tells_by (listing problem).found refl;
        loses_none = reduced_loses_none problem sound;
        short = short_grown several few (short_from problem sound.some levels (first_sets problem) several first_few (omega arith));
      }
    where
      short_grown : (several : ℕ) → several ≤ problem.events → (listing problem).entries ≤ most period several
          → (listing problem).entries ≤ most_entries problem
      short_grown several few short =
          let grown = most_grows period several (problem.events - several) sound.some in
          let same : several + (problem.events - several) ≡ problem.events = omega (arith, few) in
          let all = ap (most period) same in
          omega (arith, short, grown, all)
