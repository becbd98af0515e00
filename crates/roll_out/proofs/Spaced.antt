-- Times that are whole periods apart.
use Rattle.plan_num.proofs.Common.{◌≡◌, ℕ, ◌+◌, ◌-◌, ◌*◌, ◌/◌, ◌%◌, ◌==◌, ◌<◌, ◌≤◌, nat_le, arith}
use Rattle.plan_num.proofs.Common.{Bool, true, false, ◌&&◌, [], ◌∷◌, map, filter, refl, ap, sym}
use Rattle.plan_num.proofs.Common.{◌∙◌, range_with_len, eq-eqb, ne_eqb, le-leb, lt-leb, leb-true}
use Rattle.plan_num.proofs.Common.{leb-false, mul-le, div-add-mod', and-false}
use Rattle.std.specs.Int.{div_ceil}
use Rattle.roll_out.specs.declared.copies.Copies.{Copies}
use Rattle.roll_out.specs.declared.day.Day.{Day}
use Rattle.roll_out.specs.DayTrips.{is_in_day, starts}
use Rattle.roll_out.specs.Plans.{copy_id, copy_time, ids_at, first_start, start_count}
use Rattle.plan_num.proofs.Parts.{filter_map_is, none_of_range, window, shifted, same_map}

-- ---- the copies at a time

module _ (period time : ℕ) (some : 1 ≤ period) (copies : Copies) where
  abbrev at : ℕ → Bool
  at earlier = copy_time period copies earlier == time

  none_there : ((k : ℕ) → k < copies.count → copy_time period copies k ≡ time → ⊥)
      → [] ≡ ids_at period copies time
  none_there none = grind (arith, none_of_range, ne_eqb)

  -- a time before the first copy
  pub before_copies : time < copies.start → [] ≡ ids_at period copies time
  before_copies early = none_there (λ k below e. omega (arith, e, early))

  plain : (k : ℕ) → (k * period) / period ≡ k
  plain k = grind arith

  whole : (k : ℕ) → (k * period) % period ≡ 0
  whole k = grind arith

  module _ (late : copies.start ≤ time) where
    abbrev after : ℕ
    after = time - copies.start

    after_is : (k : ℕ) → copy_time period copies k ≡ time → after ≡ k * period
    after_is k e = omega (arith, e, late)

    -- a time between two copies
    pub between_copies : (after % period ≡ 0 → ⊥) → [] ≡ ids_at period copies time
    between_copies uneven =
        none_there (λ k below e. uneven (ap (λ n. n % period) (after_is k e) ∙ whole k))

    -- a time behind the last copy
    pub behind_copies : copies.count ≤ after / period → [] ≡ ids_at period copies time
    behind_copies far = grind (arith, none_there, after_is, plain)

    -- the time of a copy
    pub copy_found : after % period ≡ 0 → after / period < copies.count
        → copy_id copies (after / period) ∷ [] ≡ ids_at period copies time
    copy_found even near =
        let place : ℕ = after / period in
        let same : place * period ≡ after =
        let parts = div-add-mod' after period in omega (arith, parts, even) in
        let only : (k : ℕ) → copy_time period copies k ≡ time → k ≡ place =
        λ k e. sym (plain k) ∙ ap (λ n. n / period) (sym (after_is k e)) in
        ap (map (copy_id copies)) (sym (window at place 1 copies.count (omega (arith, near))
        (λ k below. ne_eqb (copy_time period copies k) time
        (λ e. let is = only k e in omega (arith, is, below)))
        (λ k low high.
        let is : k ≡ place = omega (arith, low, high) in
        eq-eqb (copy_time period copies k) time
        (ap (λ n. copies.start + n * period) is ∙ omega (arith, same, late)))
        (λ k above. ne_eqb (copy_time period copies k) time
        (λ e. let is = only k e in omega (arith, is, above)))))

pub div_low : (a b period : ℕ) → 1 ≤ period → a * period ≤ b → a ≤ b / period
div_low a b period some h = grind arith

-- ---- the starts of a day

not_early : (day : Day) (t : ℕ) → t < day.earliest → is_in_day day t ≡ false
not_early day t early = ap (λ b. b && nat_le t day.latest) (lt-leb day.earliest t early)

not_late : (day : Day) (t : ℕ) → day.latest < t → is_in_day day t ≡ false
not_late day t late =
    ap (λ b. nat_le day.earliest t && b) (lt-leb t day.latest late) ∙ and-false (nat_le day.earliest t)

in_time : (day : Day) (t : ℕ) → day.earliest ≤ t → t ≤ day.latest → is_in_day day t ≡ true
in_time day t low high =
    ap (λ b. b && nat_le t day.latest) (le-leb day.earliest t low) ∙ le-leb t day.latest high

module _ (period : ℕ) (some : 1 ≤ period) (day : Day) (time : ℕ) where
  abbrev skipped : ℕ
  skipped = div_ceil (day.earliest - time) period

  abbrev start : ℕ
  start = first_start period day time

  abbrev at_time : ℕ → ℕ
  at_time periods = time + periods * period

  early_ones : (k : ℕ) → k < skipped → at_time k < day.earliest
  early_ones k below = grind arith

  first_in : day.earliest ≤ start
  first_in = grind arith

  later_ones : (j : ℕ) → at_time (skipped + j) ≡ start + j * period
  later_ones j = grind arith

  abbrev tests : ℕ → Bool
  tests k = is_in_day day (at_time k)

  abbrev all : ℕ
  all = day.latest / period + 1

  early_test : (k : ℕ) → k < skipped → tests k ≡ false
  early_test k below = not_early day (at_time k) (early_ones k below)

  -- a window of starts, where there is one
  module _ (within : start ≤ day.latest) where
    abbrev last : ℕ
    last = (day.latest - start) / period

    last_is : last * period ≤ day.latest - start
    last_is = let parts = div-add-mod' (day.latest - start) period in omega (arith, parts)

    past_last : day.latest - start < last * period + period
    past_last = grind arith

    room : skipped + (last + 1) ≤ all
    room =
        let low = last_is in
        let at = later_ones last in grind (arith, div_low)

    inside_test : (k : ℕ) → skipped ≤ k → k < skipped + (last + 1) → tests k ≡ true
    inside_test k low high =
        let j : ℕ = k - skipped in
        let e : k ≡ skipped + j = omega (arith, low) in grind (
          arith,
          later_ones,
          mul-le,
          last_is,
          first_in,
          in_time,
        )

    above_test : (k : ℕ) → skipped + (last + 1) ≤ k → tests k ≡ false
    above_test k high =
        let j : ℕ = k - skipped in
        let e : k ≡ skipped + j = omega (arith, high) in grind (
          arith,
          later_ones,
          mul-le,
          past_last,
          not_late,
        )

    some_starts : filter tests (range_with_len 0 all) ≡ range_with_len skipped (last + 1)
    some_starts = window tests skipped (last + 1) all room early_test inside_test above_test

  no_starts : day.latest < start → filter tests (range_with_len 0 all) ≡ []
  no_starts late = none_of_range tests 0 all (λ k low high. by k (nat_le skipped k) refl)
    where
      by : (k : ℕ) (b : Bool) → nat_le skipped k ≡ b → tests k ≡ false
      by k false below = early_test k (leb-false skipped k below)
      by k true above =
          let j : ℕ = k - skipped in
          let here = leb-true skipped k above in
          let e : k ≡ skipped + j = omega (arith, here) in
          let at : at_time k ≡ start + j * period = ap at_time e ∙ later_ones j in
          not_late day (at_time k) (omega (arith, at, late))

  from_first : (n : ℕ) → map at_time (range_with_len skipped n)
      ≡ map (λ k. start + k * period) (range_with_len 0 n)
  from_first n =
      let e : skipped ≡ skipped + 0 = omega arith in grind (arith, shifted, same_map, later_ones)

  passing : (b : Bool) → nat_le start day.latest ≡ b
      → filter tests (range_with_len 0 all) ≡ range_with_len skipped (start_count period day start)
  passing true within = grind (arith, some_starts, leb-true)
  passing false late = grind (arith, no_starts, leb-false)

  -- the times of a day are its first one, and those whole periods later
  pub starts_are : starts period day time
      ≡ map (λ k. start + k * period) (range_with_len 0 (start_count period day start))
  starts_are =
      filter_map_is (is_in_day day) at_time (range_with_len 0 all)
      ∙ ap (map at_time) (passing (nat_le start day.latest) refl)
      ∙ from_first (start_count period day start)
