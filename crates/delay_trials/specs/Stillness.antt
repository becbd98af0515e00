-- Inner words: how long the marks of changes stay while times change.
use Rattle.std.specs.Prelude.{ℕ, ◌≡◌, ◌<◌, ◌≤◌, ◌+◌, ◌-◌, ◌/◌, ◌*◌, ◌&&◌, ◌⊎◌, false, Bool, List, [], length, get_or}
use Rattle.delay_trials.specs.declared.ends.ChangeEnd.{ChangeEnd}
use Rattle.propagation.specs.declared.step.Activity.{Activity}
use Rattle.propagation.specs.Lateness.{is_broken}
use Rattle.propagation.specs.LeastTimes.{asked, time_at}

-- how many minutes the events of a change have to be moved by, both together, before it turns from
-- broken to not broken or back: as many as its head is too early, or one more than it is too late
abbrev pub room_of : List ℕ → Activity → ℕ
room_of times change = (asked times change.step - time_at times change.step.to)
    + (time_at times change.step.to + 1 - asked times change.step)

-- minutes that are counted no further
abbrev pub most_shifted : ℕ
most_shifted = 18446744073709551615

-- a change is marked where it is open and broken
abbrev pub IsTested : List Activity → List ℕ → List Bool → List Bool → ℕ → Activity → Type 0
IsTested changes times open_yet marks k d =
    get_or marks k false ≡ (get_or open_yet k false && is_broken times (get_or changes k d))

-- of each 64 ends there is a number of minutes, and no change of these turns before events have
-- been moved by so many, counted with those that they were moved by already
pub record AreLimits (changes : List Activity) (times : List ℕ) (ends : List ChangeEnd) (shifted : ℕ)
    (until : List ℕ) : Type 0 where
  pub there : length ends < 64 * length until
  pub room : (j : ℕ) (e : ChangeEnd) (d : Activity) → j < length ends → shifted < most_shifted
      → get_or until (j / 64) 0 ≤ shifted + room_of times (get_or changes (get_or ends j e).change d)

-- there are such numbers, or none at all, where no 64 ends stand together at one event
abbrev pub MayHaveLimits : List Activity → List ℕ → List ChangeEnd → ℕ → List ℕ → Type 0
MayHaveLimits changes times ends shifted until =
    (until ≡ []) ⊎ AreLimits changes times ends shifted until

-- the changes are tested at whose ends that number is not reached
abbrev pub AreStill : List Activity → List ℕ → List Bool → List ChangeEnd → ℕ → List ℕ → List Bool
    → Type 0
AreStill changes times open_yet ends shifted until marks = (j : ℕ) (e : ChangeEnd) (d : Activity)
    → j < length ends → shifted < most_shifted → shifted < get_or until (j / 64) 0
    → IsTested changes times open_yet marks (get_or ends j e).change d

-- changes of the ends between two places are tested, and what was tested before still is
pub record TestsSome (changes : List Activity) (times : List ℕ) (open_yet : List Bool)
    (ends : List ChangeEnd) (from to : ℕ) (old new : List Bool) : Type 0 where
  pub size : length new ≡ length old
  pub keeps : (k : ℕ) (d : Activity) → IsTested changes times open_yet old k d
      → IsTested changes times open_yet new k d
  pub done : (j : ℕ) (e : ChangeEnd) (d : Activity) → from ≤ j → j < to → j < length ends
      → IsTested changes times open_yet new (get_or ends j e).change d
