-- The delay of all arrivals where the time of one event is another one.
use Rattle.plan_num.proofs.Common.{◌≡◌, ◌∙◌, ℕ, ℤ, zero, suc, ◌+◌, ◌*◌, ◌<◌, ◌≤◌, ◌+ℤ◌, ◌-ℤ◌, ◌≤ℤ◌}
use Rattle.plan_num.proofs.Common.{pos, cond, Bool, true, false, List, [], ◌∷◌, length, get_or}
use Rattle.plan_num.proofs.Common.{slice_set, All, ap, of_z, to_z, subst, arith, filter, neg_ℤ, zip}
use Rattle.plan_num.proofs.Common.{fold, ints}
use Rattle.std.proofs.lemmas.Int.{to_z-of_z}
use mir.Syntax.{w128}
use mir.Val.{SFits}
use Rattle.propagation.specs.declared.day_event.DayEvent.{DayEvent}
use Rattle.propagation.specs.declared.times.TheConstants.{LATEST}
use Rattle.propagation.proofs.Common.{arrives, delay_at, lateness, more_delay, time_at, planned_at}

abbrev Timed : Type 0
Timed = DayEvent × ℕ

abbrev sum_of : ℤ → List Timed → ℤ
sum_of sum all = fold (λ sum timed. sum +ℤ lateness timed) sum all

abbrev late_from : ℤ → List DayEvent → List ℕ → ℤ
late_from sum events times = sum_of sum (filter arrives (zip events times))

more_first : (all : List Timed) (sum more : ℤ) → sum_of (sum +ℤ more) all ≡ sum_of sum all +ℤ more
more_first [] sum more = λ i. sum +ℤ more
more_first (timed ∷ all) sum more =
    let turned : (sum +ℤ more) +ℤ lateness timed ≡ (sum +ℤ lateness timed) +ℤ more = omega (arith, ints) in
    ap (λ s. sum_of s all) turned ∙ more_first all (sum +ℤ lateness timed) more

later_one : (events : List DayEvent) (times : List ℕ) (event time : ℕ) (d : DayEvent) (sum : ℤ)
    → event < length events → event < length times
    → late_from sum events (slice_set times event time)
    ≡ late_from sum events times +ℤ more_delay (get_or events event d) (time_at times event) time
later_one [] times event time d sum there within = absurd (omega (arith, there))
later_one (e ∷ events) [] event time d sum there within = absurd (omega (arith, within))
later_one (e ∷ events) (t ∷ times) zero time d sum there within = by e.arrives
  where
    by : (is : Bool)
        → sum_of sum (cond is ((e, time) ∷ filter arrives (zip events times)) (filter arrives (zip events times)))
        ≡ sum_of sum (cond is ((e, t) ∷ filter arrives (zip events times)) (filter arrives (zip events times)))
        +ℤ cond is (pos time -ℤ pos t) (pos 0)
    by true =
        let turned : sum +ℤ lateness (e, time) ≡ (sum +ℤ lateness (e, t)) +ℤ (pos time -ℤ pos t) =
        omega (arith, ints) in grind (arith, more_first)
    by false = let same : (s : ℤ) → s ≡ s +ℤ pos 0 = λ s. omega (arith, ints) in same (late_from sum events times)
later_one (e ∷ events) (t ∷ times) (suc event) time d sum there within =
    by e.arrives
    (λ sum. later_one events times event time d sum (omega (arith, there)) (omega (arith, within)))
  where
    by : (is : Bool)
        → ((sum : ℤ) → late_from sum events (slice_set times event time)
        ≡ late_from sum events times +ℤ more_delay (get_or events event d) (time_at times event) time)
        → sum_of sum (cond is ((e, t) ∷ filter arrives (zip events (slice_set times event time)))
        (filter arrives (zip events (slice_set times event time))))
        ≡ sum_of sum (cond is ((e, t) ∷ filter arrives (zip events times)) (filter arrives (zip events times)))
        +ℤ more_delay (get_or events event d) (time_at times event) time
    by true rest = rest (sum +ℤ lateness (e, t))
    by false rest = rest sum

pub later_at : (events : List DayEvent) (times : List ℕ) (event time : ℕ) (d : DayEvent)
    → event < length events → event < length times
    → delay_at events (slice_set times event time)
    ≡ delay_at events times +ℤ more_delay (get_or events event d) (time_at times event) time
later_at events times event time d there within = later_one events times event time d (pos 0) there within

-- ---- how large it can be

pub record Bounded (sum : ℤ) (count : ℕ) : Type 0 where
  pub least : neg_ℤ (pos (count * LATEST)) ≤ℤ sum
  pub most : sum ≤ℤ pos (count * LATEST)

sums_bounded : (events : List DayEvent) (times : List ℕ) (sum : ℤ) (count : ℕ)
    → ((k : ℕ) → k < length events → planned_at events k ≤ LATEST)
    → All (λ time. time ≤ LATEST) times → Bounded sum count
    → Bounded (late_from sum events times) (count + length events)
sums_bounded [] times sum count soon small within = grind arith
sums_bounded (event ∷ events) [] sum count soon small within = grind arith
sums_bounded (event ∷ events) (time ∷ times) sum count soon small within =
    by event.arrives
    (λ sum here. more (sums_bounded events times sum (count + 1)
    (λ k inside. soon (suc k) (omega (arith, inside))) (λ k d inside. small (suc k) d (omega (arith, inside))) here))
  where
    here : event.time ≤ LATEST
    here = soon 0 (omega arith)

    few : time ≤ LATEST
    few = small 0 0 (omega arith)

    more : {sum : ℤ} → Bounded sum ((count + 1) + length events) → Bounded sum (count + suc (length events))
    more w = let n : (count + 1) + length events ≡ count + suc (length events) = omega arith in subst (Bounded _) n w

    by : (is : Bool) → ((sum : ℤ) → Bounded sum (count + 1)
        → Bounded (late_from sum events times) (count + suc (length events)))
        → Bounded (sum_of sum (cond is ((event, time) ∷ filter arrives (zip events times))
        (filter arrives (zip events times))))
        (count + suc (length events))
    by true rest =
        let least = within.least in let most = within.most in
        rest (sum +ℤ lateness (event, time)) (record {
          least = omega (arith, ints, least, here, few);
          most = omega (arith, ints, most, here, few);
        })
    by false rest =
        let least = within.least in let most = within.most in
        rest sum (record { least = omega (arith, ints, least); most = omega (arith, ints, most) })

pub delay_bounded : (events : List DayEvent) (times : List ℕ)
    → ((k : ℕ) → k < length events → planned_at events k ≤ LATEST)
    → All (λ time. time ≤ LATEST) times
    → Bounded (delay_at events times) (0 + length events)
delay_bounded events times soon small =
    sums_bounded events times (pos 0) 0 soon small (record { least = omega (arith, ints); most = omega (arith, ints) })

module _ (sum more : ℤ) (bounded : Bounded sum 100000) where
  pub sum_fits : SFits w128 sum
  sum_fits = grind arith

  pub more_fits : neg_ℤ (pos LATEST) ≤ℤ more → more ≤ℤ pos LATEST
      → SFits w128 (sum +ℤ more)
  more_fits low high = grind arith

  pub sum_told : SFits w128 more → SFits w128 (sum +ℤ more)
      → to_z w128 (of_z w128 (to_z w128 (of_z w128 sum) +ℤ to_z w128 (of_z w128 more))) ≡ sum +ℤ more
  sum_told one both = grind (arith, to_z, of_z, to_z-of_z, sum_fits, more)
