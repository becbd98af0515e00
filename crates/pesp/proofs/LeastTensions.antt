-- The tension is the least time that an activity can take.
use Rattle.plan_num.proofs.Common.{◌≡◌, ℕ, ℤ, ◌+◌, ◌-◌, ◌*◌, ◌%◌, ◌<◌, ◌≤◌, ◌+ℤ◌, ◌≤ℤ◌, pos, negsuc}
use Rattle.plan_num.proofs.Common.{unsigned_abs, refl, ap, sym, subst, ◌∙◌, arith, ints}
use Rattle.std.proofs.Math.Nat.{le-mul_of_pos_right, mod-lt}
use Rattle.pesp.proofs.Slack.{slack_is, not_above, slack_leads}
use Rattle.pesp.specs.Timetables.{IsTension, tension}

-- the slack as a remainder
abbrev pub rest : ℕ → ℕ → ℕ → ℕ → ℕ
rest period l from to = (to + (from + l) * period - (from + l)) % period

pub tension_is : (period l from to : ℕ) → 0 < period
    → tension period (pos l) from to ≡ pos (l + rest period l from to)
tension_is period l from to some =
    ap (λ z. pos l +ℤ z) (slack_is period l from to some (le-mul_of_pos_right (from + l) some))

low_of : (l other : ℕ) → pos l ≤ℤ pos other → l ≤ other
low_of l other h = omega (arith, ints)

pub rest_least : (period l from to : ℕ) → from < period → to < period
    → IsTension period (pos l) from to (l + rest period l from to)
rest_least period l from to from_in to_in =
    let some : 0 < period = omega arith in
    let leads = slack_leads (from + l) period to to_in (le-mul_of_pos_right (from + l) some) in
    let small : rest period l from to < period =
    mod-lt (to + (from + l) * period - (from + l)) some in
    record {
      leads = ap (λ n. n % period) (turn (rest period l from to)) ∙ leads;
      enough = omega (arith, ints);
      least = λ other shows low.
          let over = low_of l other low in
          let whole : from + l + (other - l) ≡ from + other = omega arith in
          let near = not_above (from + l) (other - l) (rest period l from to) period to small
          (ap (λ n. n % period) whole ∙ shows) leads in
          omega arith;
    }
  where
    turn : (s : ℕ) → from + (l + s) ≡ from + l + s
    turn s = omega arith

pub tension_least : (period : ℕ) (lower : ℤ) (from to : ℕ) → from < period → to < period
    → pos 0 ≤ℤ lower
    → (tension period lower from to ≡ pos (unsigned_abs (tension period lower from to)))
    × IsTension period lower from to (unsigned_abs (tension period lower from to))
tension_least period (pos l) from to from_in to_in low =
    let some : 0 < period = omega arith in
    subst (λ z. (z ≡ pos (unsigned_abs z)) × IsTension period (pos l) from to (unsigned_abs z))
    (sym (tension_is period l from to some)) (refl, rest_least period l from to from_in to_in)
tension_least period (negsuc n) from to from_in to_in low = absurd (omega (arith, ints))
