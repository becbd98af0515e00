-- An activity takes out nothing where more times are left than lie outside of each window.
use Rattle.plan_num.proofs.Common.{◌≡◌, ◌∙◌, ℕ, ◌+◌, ◌-◌, ◌<◌, ◌≤◌, ◌==◌, nat_le, nat_lt, Bool}
use Rattle.plan_num.proofs.Common.{true, false, not, ◌||◌, filter, length, arith, range_with_len}
use Rattle.plan_num.proofs.Common.{and_parts, cases_Bool, false≢true, le-leb, leb-true, ltb-true}
use Rattle.pesp.specs.declared.activity.PespActivity.{PespActivity}
use Rattle.pesp.specs.Timetables.{IsActivity}
use Rattle.pesp.specs.Marks.{AreMarks, Prunes, Tracked, is_left, times_from}
use Rattle.pesp.specs.declared.activity_end.ActivityEnd.{ActivityEnd}
use Rattle.pesp.specs.declared.activity_end.ActivityEnd.TheVariants as at
use Rattle.pesp.specs.Revising.{IsRevised, Left, event_at, is_free, is_partnered, keeps_partnered}
use Rattle.pesp.specs.Revising.{opens_behind, other_end, width_of}
use Rattle.pesp.proofs.Partners.{partner_reached}
use Rattle.pesp.proofs.WindowSums.{crowded}

-- where all times that are left stay, nothing changes
prunes_none : (before : Tracked) (keeps : Left)
    → ((event time : ℕ) → is_left before.sets event time ≡ true → keeps event time ≡ true)
    → Prunes before before keeps false
prunes_none before keeps all = grind (arith, false≢true, cases_Bool)

module _ (activity : PespActivity) (before : Tracked)
    (is : IsActivity before.sets.rows activity) (are : AreMarks before.sets) where
  abbrev period : ℕ
  period = before.sets.columns

  abbrev width : ℕ
  width = width_of period activity

  -- more times are left to an event than lie outside of a window
  abbrev IsCrowded : ℕ → Type 0
  IsCrowded event = nat_le (period - width) (length (times_from before.sets event 0)) ≡ true

  narrow : width < period
  narrow = omega (arith, are.some)

  low : (event time : ℕ) → is_left before.sets event time ≡ true → time < period
  low event time left = ltb-true time period (and_parts (nat_lt time period) _ left).0

  many : (event : ℕ) → IsCrowded event
      → period ≤ length (filter (is_left before.sets event) (range_with_len 0 period)) + width
  many event so = grind arith

  own : (event : ℕ) (test : Bool) → test ≡ true → (other : ℕ) → (not (event == other)
      || test) ≡ true
  own event test so other = grind arith

  -- a time has a partner where the other end is crowded
  met : (end : ActivityEnd) (time : ℕ) → IsCrowded (event_at activity (other_end end))
      → time < period → is_partnered period (is_left before.sets) activity end time ≡ true
  met end time so low =
      partner_reached period are.some before.sets.rows activity is (is_left before.sets) end time low
      ∙ crowded period (is_left before.sets (event_at activity (other_end end))) width are.some narrow
      (many (event_at activity (other_end end)) so) (opens_behind period activity end) time

  pub crowded_end : (end : ActivityEnd) → IsCrowded (event_at activity (other_end end))
      → Prunes before before (keeps_partnered period (is_left before.sets) activity end) false
  crowded_end end so = grind (arith, prunes_none, own, met, low)

  -- and any two times keep an activity that is free
  crowded_free : is_free period activity ≡ true → (event : ℕ)
      → 1 ≤ length (times_from before.sets event 0) → IsCrowded event
  crowded_free free event some = le-leb _ _ (let wide = leb-true period (width + 1) free in
      omega (arith, wide, some))

  pub free_revised : is_free period activity ≡ true
      → 1 ≤ length (times_from before.sets activity.from 0)
      → 1 ≤ length (times_from before.sets activity.to 0)
      → IsRevised period (is_left before.sets) activity
  free_revised free some_from some_to at.First time left =
      met at.First time (crowded_free free activity.to some_to) (low activity.from time left)
  free_revised free some_from some_to at.Second time left =
      met at.Second time (crowded_free free activity.from some_from) (low activity.to time left)
