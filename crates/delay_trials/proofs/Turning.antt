-- How far events may be moved before a change turns from broken to not broken, or back.
use Rattle.plan_num.proofs.Common.{◌≡◌, ◌≢◌, ◌∙◌, ℕ, ◌+◌, ◌*◌, ◌/◌, ◌<◌, ◌≤◌, ◌⊎◌, inl, inr, min}
use Rattle.plan_num.proofs.Common.{nat_lt, Bool, List, [], length, get_or, slice_set, ap, arith}
use Rattle.plan_num.proofs.Common.{replicate, Contains, IsNonDecreasingBy, get_or-replicate}
use Rattle.plan_num.proofs.Common.{length-replicate}
use Rattle.std.proofs.Math.Nat.{min-le_left, min-le_right}
use Rattle.delay_trials.specs.declared.ends.ChangeEnd.{ChangeEnd}
use Rattle.propagation.specs.declared.step.Activity.{Activity}
use Rattle.delay_trials.specs.ChangeEnds.{HasEnds, HasNone, IsFirst}
use Rattle.delay_trials.specs.OnTrial.{AreTested, AreTestedBut}
use Rattle.delay_trials.specs.Stillness.{AreLimits, AreStill, IsTested, MayHaveLimits, TestsSome, room_of}
use Rattle.bit_rows.proofs.Cases.{by_less, by_same}
use Rattle.delay_trials.proofs.Apart.{set_there}

none_has : (ends : List ChangeEnd) (event : ℕ) → HasNone ends event → (x : ChangeEnd) → Contains ends x
    → x.event ≢ event
none_has ends event none x there same = none there.0 x there.1 (ap (λ (end : ChangeEnd). end.event) there.2 ∙ same)

module _ (times : List ℕ) (event before : ℕ) (there : event < length times) where
  abbrev times_before : List ℕ
  times_before = slice_set times event before

  pub others_tested : (changes : List Activity) (open_yet marks : List Bool)
      → AreTested changes times_before open_yet marks
      → AreTestedBut event changes times open_yet marks
  others_tested changes open_yet marks tested k d inside from to = grind (
    arith,
    get_or,
    nat_lt,
    set_there,
  )

  module _ (changes : List Activity) (ends : List ChangeEnd) (has : HasEnds changes ends) where
    known : (j : ℕ) (e : ChangeEnd) → j < length ends → (get_or ends j e).change < length changes
    known j e inside = has.there j e inside

    -- nothing changes where no change is at the event
    module _ (none : HasNone ends event) where
      from_apart : (k : ℕ) (d : Activity) → k < length changes → (get_or changes k d).step.from ≢ event
      from_apart k d inside same = let there = has.from k d inside in none_has ends event none _ there same

      to_apart : (k : ℕ) (d : Activity) → k < length changes → (get_or changes k d).step.to ≢ event
      to_apart k d inside same = let there = has.to k d inside in none_has ends event none _ there same

      pub all_tested : (open_yet marks : List Bool) → AreTested changes times_before open_yet marks
          → AreTested changes times open_yet marks
      all_tested open_yet marks tested k d inside =
          others_tested changes open_yet marks tested k d inside (from_apart k d inside) (to_apart k d inside)

      pub limits_same : (shifted : ℕ) (until : List ℕ) → MayHaveLimits changes times_before ends shifted until
          → MayHaveLimits changes times ends shifted until
      limits_same shifted until (inl nothing) = inl nothing
      limits_same shifted until (inr are) = grind (
        arith,
        get_or,
        set_there,
        from_apart,
        known,
        to_apart,
      )

-- limits of 0 are good
pub limits_none : (changes : List Activity) (times : List ℕ) (ends : List ChangeEnd) (shifted n : ℕ)
    → length ends < 64 * n → (zeros : List ℕ) → zeros ≡ replicate n 0 → AreLimits changes times ends shifted zeros
limits_none changes times ends shifted n there zeros are = grind (
  arith,
  length-replicate,
  get_or,
  get_or-replicate,
)

pub limits_at_first : (changes : List Activity) (times : List ℕ) (ends : List ChangeEnd) (shifted : ℕ) (until : List ℕ)
    → (until ≡ []) ⊎ (until ≡ replicate (length ends / 64 + 1) 0) → MayHaveLimits changes times ends shifted until
limits_at_first changes times ends shifted until (inl none) = inl none
limits_at_first changes times ends shifted until (inr zeros) =
    inr (limits_none changes times ends shifted (length ends / 64 + 1) (omega arith) until zeros)

pub limits_again : (changes : List Activity) (before times : List ℕ) (ends : List ChangeEnd) (shifted : ℕ) (until : List ℕ)
    → MayHaveLimits changes before ends shifted until → (zeros : List ℕ) → zeros ≡ replicate (length until) 0
    → MayHaveLimits changes times ends shifted zeros
limits_again changes before times ends shifted until (inl none) zeros are = grind arith
limits_again changes before times ends shifted until (inr limits) zeros are =
    inr (limits_none changes times ends shifted (length until) limits.there zeros are)

-- ---- tests of some ends

module _ (changes : List Activity) (times : List ℕ) (open_yet : List Bool) (ends : List ChangeEnd) where
  abbrev Tests : ℕ → ℕ → List Bool → List Bool → Type 0
  Tests from to old new = TestsSome changes times open_yet ends from to old new

  pub tests_more : (from middle to : ℕ) (old new last : List Bool) → Tests from middle old new
      → Tests middle to new last → Tests from to old last
  tests_more from middle to old new last one two = grind (arith, by_less, get_or)

  pub still_kept : (from to shifted : ℕ) (until : List ℕ) (old new : List Bool)
      → AreStill changes times open_yet ends shifted until old → Tests from to old new
      → AreStill changes times open_yet ends shifted until new
  still_kept from to shifted until old new still tests j e d inside few below =
      tests.keeps (get_or ends j e).change d (still j e d inside few below)

  -- the least room of the ends so far, and of one more
  pub room_more : (at place least room new : ℕ)
      → ((e : ChangeEnd) (d : Activity) → room ≡ room_of times (get_or changes (get_or ends place e).change d))
      → new ≡ min least room
      → ((j : ℕ) (e : ChangeEnd) (d : Activity) → at ≤ j → j < place
      → least ≤ room_of times (get_or changes (get_or ends j e).change d))
      → (j : ℕ) (e : ChangeEnd) (d : Activity) → at ≤ j → j < place + 1
      → new ≤ room_of times (get_or changes (get_or ends j e).change d)
  room_more at place least room new own is so_far j e d low high = grind (
    arith,
    by_less,
    min-le_left,
    min-le_right,
    get_or,
  )

  -- all changes are tested where those of all ends at an event are
  pub all_done : (event first at : ℕ) (old new : List Bool) → HasEnds changes ends
      → IsNonDecreasingBy (λ (e : ChangeEnd). e.event) ends
      → IsFirst (λ (e : ChangeEnd). e.event) ends event first → first ≤ at
      → ((e : ChangeEnd) → at < length ends → (get_or ends at e).event ≢ event)
      → AreTestedBut event changes times open_yet old → Tests first at old new
      → AreTested changes times open_yet new
  all_done event first at old new has sorted is low past but tests k d inside =
      by_same (get_or changes k d).step.from event
      (λ same. named _ (has.from k d inside) same)
      (λ from. by_same (get_or changes k d).step.to event
      (λ same. named _ (has.to k d inside) same)
      (λ to. tests.keeps k d (but k d inside from to)))
    where
      named : (x : ChangeEnd) → Contains ends x → x.event ≡ event → IsTested changes times open_yet new x.change d
      named x there same = grind (arith, by_less, get_or)
