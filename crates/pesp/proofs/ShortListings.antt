-- A listing is no longer than the sum of the powers of the period.
use Rattle.plan_num.proofs.Common.{◌≡◌, ◌∙◌, ℕ, zero, suc, ◌+◌, ◌*◌, ◌^◌, ◌≤◌, Bool, true, false}
use Rattle.plan_num.proofs.Common.{List, [], ◌∷◌, length, map, position, Option, Some, None}
use Rattle.plan_num.proofs.Common.{is_some, refl, ap, sym, arith, filter, sum, AllByRecursion}
use Rattle.plan_num.proofs.Common.{list_any, range_with_len, sum_by-cons, mul-le, pow-succ'}
use Rattle.std.proofs.Math.Nat.{pow-zero}
use Rattle.pesp.specs.Timetables.{Problem}
use Rattle.pesp.specs.Listings.{Listing, branches, has_several, in_turn, is_empty, listing_from}
use Rattle.pesp.specs.Listings.{several_in, with_time}
use Rattle.pesp.specs.TimeSets.{left_to, reduced}
use Rattle.pesp.proofs.ListedTimes.{fewer_settled, several_at}
use Rattle.pesp.proofs.ShrinkingSets.{filter_short, reduced_each, reduced_several}

-- ---- sums of powers

abbrev powers : ℕ → ℕ → ℕ → ℕ
powers period from count = sum (map (λ n. period ^ n) (range_with_len from count))

powers_cons : (period from count : ℕ)
    → powers period from (suc count) ≡ period ^ from + powers period (from + 1) count
powers_cons period from count =
    sum_by-cons (λ (x : ℕ). x) (period ^ from) (map (λ n. period ^ n) (range_with_len (from + 1) count))

next_power : (period from : ℕ) → period ^ (from + 1) ≡ period * period ^ from
next_power period from =
    let next : from + 1 ≡ suc from = omega arith in grind (arith, pow-succ')

times_both : (period a b : ℕ) → period * a + period * b ≡ period * (a + b)
times_both period a b = omega arith

powers_times : (period from count : ℕ) → powers period (from + 1) count ≡ period * powers period from count
powers_times period from zero = omega arith
powers_times period from (suc count) =
    powers_cons period (from + 1) count
    ∙ (λ i. next_power period from i + powers_times period (from + 1) count i)
    ∙ times_both period (period ^ from) (powers period (from + 1) count)
    ∙ ap (λ n. period * n) (sym (powers_cons period from count))

suc_is : (n : ℕ) → n + 1 ≡ suc n
suc_is n = omega arith

-- those up to a number of events
abbrev pub most : ℕ → ℕ → ℕ
most period events = powers period 0 (events + 1)

most_more : (period events : ℕ) → most period (events + 1) ≡ 1 + period * most period events
most_more period events =
    ap (powers period 0) (suc_is (events + 1)) ∙ powers_cons period 0 (events + 1)
    ∙ (λ i. pow-zero period i + powers_times period 0 (events + 1) i)

some_power : (period events : ℕ) → 1 ≤ most period events
some_power period events =
    let next : most period events ≡ powers period 0 (suc events) = ap (powers period 0) (suc_is events) in
    omega (arith, next, powers_cons period 0 events, pow-zero period)

no_less : (period a : ℕ) → 1 ≤ period → a ≤ period * a
no_less period a some = omega (arith, mul-le 1 a period a some (omega arith))

pub most_grows : (period fewer more : ℕ) → 1 ≤ period → most period fewer ≤ most period (fewer + more)
most_grows period fewer zero some = grind arith
most_grows period fewer (suc more) some = grind (
  arith,
  most_more,
  no_less,
  most_grows period fewer
      more some,
)

-- ---- listings

turn_short : (visit : ℕ → Listing) (xs : List ℕ) (few : ℕ) → ((x : ℕ) → (visit x).entries ≤ few)
    → (in_turn visit xs).entries ≤ length xs * few
unfolding in_turn
turn_short visit [] few each = omega arith
turn_short visit (x ∷ xs) few each = grind (arith, is_some, turn_short visit xs few each)

-- no event has more times than a period
abbrev pub AreFew : ℕ → List (List ℕ) → Type 0
AreFew period sets = AllByRecursion (λ times. length times ≤ period) sets

settled_few : (period : ℕ) (sets : List (List ℕ)) (event time : ℕ) → 1 ≤ period → AreFew period sets
    → AreFew period (with_time sets event time)
settled_few period [] event time some each = tt
settled_few period (set ∷ sets) zero time some each = (omega (arith, some), each.1)
settled_few period (set ∷ sets) (suc event) time some each =
    (each.0, settled_few period sets event time some each.1)

few_at : (period : ℕ) (sets : List (List ℕ)) (event : ℕ) → AreFew period sets
    → length (left_to sets event) ≤ period
few_at period [] event each = omega arith
few_at period (set ∷ sets) zero each = each.0
few_at period (set ∷ sets) (suc event) each = few_at period sets event each.1

module _ (problem : Problem) (some : 1 ≤ problem.period) where
  abbrev period : ℕ
  period = problem.period

  filter_few : (test : ℕ → Bool) (xs : List ℕ) → length xs ≤ period → length (filter test xs) ≤ period
  filter_few test xs few = omega (arith, few, filter_short test xs)

  pub short_from : (more : ℕ) (sets : List (List ℕ)) (several : ℕ) → AreFew period sets
      → several_in sets ≤ several → (listing_from more problem sets).entries ≤ most period several
  unfolding listing_from
  short_from zero sets several each few = some_power period several
  short_from (suc more) sets several each few =
      by (list_any is_empty left) (λ event time. short_from more (with_time left event time))
    where
      left : List (List ℕ)
      left = reduced problem sets

      left_few : AreFew period left
      left_few = reduced_each problem sets (λ set. length set ≤ period) filter_few each

      visit : ℕ → ℕ → Listing
      visit event time = listing_from more problem (with_time left event time)

      Rest : Type 0
      Rest = (event time several : ℕ) → AreFew period (with_time left event time)
          → several_in (with_time left event time) ≤ several → (visit event time).entries ≤ most period several

      children : (several : ℕ) → several_in left ≤ several → (event : ℕ) → position has_several left ≡ Some event
          → Rest → 1 + (in_turn (visit event) (left_to left event)).entries ≤ most period several
      children zero few event is rest =
          let at = several_at left event is in
          absurd (omega (arith, few, fewer_settled left event 0 at.0 at.1))
      children (suc several) few event is rest =
          let at = several_at left event is in
          let each = turn_short (visit event) (left_to left event) (most period several)
          (λ time. rest event time several (settled_few period left event time some left_few)
          (omega (arith, few, fewer_settled left event time at.0 at.1))) in
          let all = mul-le (length (left_to left event)) (most period several) period (most period several)
          (few_at period left event left_few) (omega arith) in
          let one : most period (suc several) ≡ 1 + period * most period several =
          ap (most period) (sym (suc_is several)) ∙ most_more period several in
          omega (arith, each, all, one)

      by_event : (o : Option ℕ) → position has_several left ≡ o → Rest
          → (branches left visit o).entries ≤ most period several
      by_event None is rest = some_power period several
      by_event (Some event) is rest =
          children several (omega (arith, few, reduced_several problem sets)) event is rest

      by : (b : Bool) → Rest
          → (elim b as (λ _. Listing) [
            | true ↦ record { entries = 1; found = None }
            | false ↦ branches left visit (position has_several left)
          ]).entries ≤ most period several
      by true rest = some_power period several
      by false rest = by_event (position has_several left) refl rest
