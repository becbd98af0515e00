-- Inner words: the changes of a day at some times, and which of them are open.
use Rattle.std.specs.Prelude.{ℕ, ◌≡◌, ◌≤◌, Bool, List, length, All}
use Rattle.std.specs.List.Sorted.{IsNonDecreasingBy}
use Rattle.delay_trials.specs.declared.ends.ChangeEnd.{ChangeEnd}
use Rattle.propagation.specs.declared.step.Activity.{Activity}
use Rattle.propagation.specs.declared.times.TheConstants.{LATEST}
use Rattle.delay_trials.specs.ChangeEnds.{HasEnds}
use Rattle.delay_trials.specs.OnTrial.{AreTested}
use Rattle.propagation.specs.Problems.{Joins}
use Rattle.delay_trials.specs.Stillness.{AreLimits, AreStill, TestsSome}

-- the changes, the times of the events, which changes are open, and the ends of the changes
pub record OpenParts : Type 0 where
  pub changes : List Activity
  pub times : List ℕ
  pub open_yet : List Bool
  pub ends : List ChangeEnd

-- each change joins two events at times that are not too late, and its ends stand by their events
pub record AreOpenChanges (day : OpenParts) : Type 0 where
  pub flags : length day.open_yet ≡ length day.changes
  pub joins : All (λ change. Joins (length day.times) change.step) day.changes
  pub small : All (λ time. time ≤ LATEST) day.times
  pub ends : HasEnds day.changes day.ends
  pub in_order : IsNonDecreasingBy (λ end. end.event) day.ends

-- each change is marked where it is open and broken
abbrev pub AreAllTested : OpenParts → List Bool → Type 0
AreAllTested day marks = AreTested day.changes day.times day.open_yet marks

-- changes of the ends between two places are tested, and what was tested before still is
abbrev pub TestsEnds : OpenParts → ℕ → ℕ → List Bool → List Bool → Type 0
TestsEnds day from to old new = TestsSome day.changes day.times day.open_yet day.ends from to old new

-- of each 64 ends it is noted how far events may be moved, and where they were not moved so far the
-- changes are tested
abbrev pub HasLimits : OpenParts → ℕ → List ℕ → Type 0
HasLimits day shifted until = AreLimits day.changes day.times day.ends shifted until

abbrev pub AreStillTested : OpenParts → ℕ → List ℕ → List Bool → Type 0
AreStillTested day shifted until marks =
    AreStill day.changes day.times day.open_yet day.ends shifted until marks
