-- A timetable may be turned, so that its first event is at time 0.
use Rattle.plan_num.proofs.Common.{◌≡◌, ◌∙◌, ℕ, zero, suc, ◌+◌, ◌-◌, ◌%◌, ◌<◌, ◌≤◌, nat_eq, true}
use Rattle.plan_num.proofs.Common.{false, inl, inr, cond, ◌||◌, List, [], ◌∷◌, get_or, length, map}
use Rattle.plan_num.proofs.Common.{All, refl, ap, sym, subst, arith, range_with_len, eq-eqb}
use Rattle.plan_num.proofs.Common.{eqb-false, ne_eqb, cases_Bool, get_or_default, length-map}
use Rattle.plan_num.proofs.Common.{add-mod_right, mod-add-mod}
use Rattle.std.proofs.Math.Nat.{mod-eq_of_lt, mod-lt}
use Rattle.pesp.specs.declared.activity.PespActivity.{PespActivity}
use Rattle.pesp.specs.Timetables.{IsKept, IsProblem, IsTimetable, Leads, Problem, time_of}
use Rattle.pesp.specs.Listings.{first_sets, times_at_first}
use Rattle.pesp.proofs.RoundsKeep.{Holds, is_in}

turned_leads : (period from to minutes by : ℕ) → Leads period from to minutes
    → Leads period ((from + by) % period) ((to + by) % period) minutes
turned_leads period from to minutes by leads =
    let other : from + by + minutes ≡ from + minutes + by = omega arith in
    mod-add-mod (from + by) period minutes ∙ ap (λ n. n % period) other
    ∙ sym (mod-add-mod (from + minutes) period by) ∙ ap (λ to. (to + by) % period) leads

abbrev turned : ℕ → ℕ → List ℕ → List ℕ
turned period by times = map (λ time. (time + by) % period) times

turned_at : (period by : ℕ) (times : List ℕ) (event : ℕ) → event < length times
    → time_of (turned period by times) event ≡ (time_of times event + by) % period
turned_at period by [] event inside = absurd (omega (arith, inside))
turned_at period by (time ∷ times) zero inside = refl
turned_at period by (time ∷ times) (suc event) inside =
    turned_at period by times event (omega (arith, inside))

module _ (problem : Problem) (sound : IsProblem problem) (times : List ℕ)
    (is : IsTimetable problem times) where
  turned_size : (by : ℕ) → length (turned problem.period by times) ≡ length times
  turned_size by = length-map times (λ time. (time + by) % problem.period)

  turned_below : (by : ℕ) → All (λ time. time < problem.period) (turned problem.period by times)
  turned_below by event d inside =
      let here : event < length times = omega (arith, inside, turned_size by) in
      subst (λ time. time < problem.period)
      (sym (turned_at problem.period by times event here)
      ∙ get_or_default (turned problem.period by times) event 0 d inside)
      (mod-lt (time_of times event + by) (omega (arith, sound.some)))

  turned_kept : (by k : ℕ) (d : PespActivity) → k < length problem.activities
      → IsKept problem.period (turned problem.period by times) (get_or problem.activities k d)
  turned_kept by k d inside = grind (arith, get_or, turned_at, turned_leads)

  turned_timetable : (by : ℕ) → IsTimetable problem (turned problem.period by times)
  turned_timetable by = record {
    each = turned_size by ∙ is.each;
    within = turned_below by;
    kept = turned_kept by;
  }

-- ---- among the first sets

pub in_range : (time from count : ℕ) → from ≤ time → time < from + count
    → is_in time (range_with_len from count) ≡ true
in_range time from zero low high = absurd (omega (arith, low, high))
in_range time from (suc count) low high = elim (cases_Bool (nat_eq time from)) [
  | inl same ↦ rw same refl
  | inr other ↦ rw other (in_range time (from + 1) count
      (omega (arith, low, eqb-false time from other)) (omega (arith, high)))
]

later_hold : (period n : ℕ) (times : List ℕ) → 1 ≤ n → All (λ time. time < period) times
    → Holds (map (times_at_first period) (range_with_len n (length times))) times
later_hold period n [] some below = tt
later_hold period n (time ∷ times) some below = (
  ap (λ b. is_in time (cond b (0 ∷ []) (range_with_len 0 period)))
      (ne_eqb n 0 (λ none. absurd (omega (arith, none, some))))
      ∙ in_range time 0 period (omega arith) (omega (arith, below 0 time (omega arith))),
  later_hold period (n + 1) times (omega arith) (λ k d h. below (suc k) d (omega (arith, h))),
)

first_hold : (period : ℕ) (times : List ℕ) → time_of times 0 ≡ 0 → All (λ time. time < period) times
    → Holds (map (times_at_first period) (range_with_len 0 (length times))) times
first_hold period [] zero_first below = tt
first_hold period (time ∷ times) zero_first below = (
  ap (λ b. b || false) (eq-eqb time 0 zero_first),
  later_hold period 1 times (omega arith) (λ k d h. below (suc k) d (omega (arith, h))),
)

-- where there is a timetable there is one among the first sets
pub record HasFirst (problem : Problem) : Type 0 where
  pub times : List ℕ
  pub is : IsTimetable problem times
  pub holds : Holds (first_sets problem) times

pub has_first : (problem : Problem) → IsProblem problem → (times : List ℕ) → IsTimetable problem times
    → HasFirst problem
has_first problem sound times is =
    let by = problem.period - time_of times 0 in
    let other = turned_timetable problem sound times is by in
    record {
      times = turned problem.period by times;
      is = other;
      holds = subst (λ count. Holds (map (times_at_first problem.period) (range_with_len 0 count)) (turned problem.period by times))
          other.each
          (first_hold problem.period (turned problem.period by times) (at_zero problem.period times is.within) other.within);
    }
  where
    at_zero : (period : ℕ) (times : List ℕ) → All (λ time. time < period) times
        → time_of (turned period (period - time_of times 0) times) 0 ≡ 0
    at_zero period [] below = refl
    at_zero period (time ∷ times) below =
        let here : time < period = below 0 0 (omega arith) in
        let whole : time + (period - time) ≡ 0 + period = omega (arith, here) in
        ap (λ n. n % period) whole ∙ add-mod_right 0 period ∙ mod-eq_of_lt (omega (arith, here))
