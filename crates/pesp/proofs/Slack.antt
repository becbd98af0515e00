-- The slack of an activity on plain numbers: what it turns to, and that no smaller one does.
use Rattle.plan_num.proofs.Common.{◌≡◌, ℕ, ◌+◌, ◌-◌, ◌*◌, ◌/◌, ◌%◌, ◌<◌, ◌≤◌, ◌+ℤ◌, ◌-ℤ◌, pos, refl}
use Rattle.plan_num.proofs.Common.{arith, mod-add-div', ints, mod-mul-add}
use Rattle.std.proofs.Math.Nat.{add-mul}
use Rattle.std.proofs.lemmas.Int.{int_rem_euclid_is}
use Rattle.pesp.specs.Timetables.{slack}

turned : (to from l k : ℕ) → from + l ≤ k
    → pos to -ℤ pos from -ℤ pos l +ℤ pos k ≡ pos (to + k - (from + l))
turned to from l k h = omega (arith, ints)

-- the slack as a remainder of plain numbers
pub slack_is : (period l from to : ℕ) → 0 < period → from + l ≤ (from + l) * period
    → slack period (pos l) from to ≡ pos ((to + (from + l) * period - (from + l)) % period)
slack_is period l from to some enough =
    int_rem_euclid_is (pos to -ℤ pos from -ℤ pos l) (pos period) period (from + l)
    (to + (from + l) * period - (from + l)) some refl
    (turned to from l ((from + l) * period) enough)

-- two sums that show one time differ by whole periods, so the one below the period is not above
-- the other
pub not_above : (a r s period to : ℕ) → s < period → (a + r) % period ≡ to
    → (a + s) % period ≡ to → s ≤ r
not_above a r s period to small first second = grind arith

-- the slack leads from the one time to the other
pub slack_leads : (a period to : ℕ) → to < period → a ≤ a * period
    → (a + (to + a * period - a) % period) % period ≡ to
slack_leads a period to within enough =
    let whole = mod-add-div' (to + a * period - a) period in
    let few = quotient_few a period to within enough in
    let split = parts a ((to + a * period - a) / period) period few in
    let sum : a + (to + a * period - a) % period ≡
    (a - (to + a * period - a) / period) * period + to = omega arith in
    rw (sum) (mod-mul-add (a - (to + a * period - a) / period) period to within)
  where
    parts : (a q period : ℕ) → q ≤ a → a * period ≡ (a - q) * period + q * period
    parts a q period few = grind (arith, add-mul)

    quotient_few : (a period to : ℕ) → to < period → a ≤ a * period
        → (to + a * period - a) / period ≤ a
    quotient_few a period to within enough = grind arith
