-- Inner words: events whose times exact activities tie together, and cycles of such activities.
use Rattle.std.specs.Prelude.{ℕ, ◌≡◌, ◌⊎◌, ◌+◌, ◌%◌, ◌<◌, ◌≤◌, Bool, true, List, length, All}
use Rattle.std.specs.Prelude.{get_or}
use Rattle.pesp.specs.declared.activity.PespActivity.{PespActivity}
use Rattle.pesp.specs.Timetables.{IsProblem, Problem}
use Rattle.pesp.specs.declared.cycles.Classes.{Classes}
use Rattle.pesp.specs.declared.cycles.Place.{Place}
use Rattle.pesp.specs.Marks.{Tracked, is_left, marks_left}
use Rattle.pesp.specs.declared.cycles.Tie.{Tie}
use Rattle.pesp.specs.declared.graph.ConstraintGraph.{ConstraintGraph}
use Rattle.pesp.specs.Revising.{AreLinks, IsRevised, IsWithin, Left, ahead, behind}

-- each time that is left is left so many minutes later, too
abbrev pub Repeats : ℕ → (ℕ → Bool) → ℕ → Type 0
Repeats period left minutes = (time : ℕ) → time < period → left time ≡ true
    → left ((time + minutes) % period) ≡ true

-- in sets in which no time is without a partner, each time that is left to one event is left to
-- another one so many minutes later
abbrev pub AreLater : Problem → ℕ → ℕ → ℕ → Type 0
AreLater problem from to minutes = (left : Left)
    → All (IsRevised problem.period left) problem.activities
    → (time : ℕ) → time < problem.period → left from time ≡ true
    → left to ((time + minutes) % problem.period) ≡ true

-- two events are tied together
pub record IsTie (problem : Problem) (tie : Tie) : Type 0 where
  pub from : tie.from < problem.events
  pub to : tie.to < problem.events
  pub forth : AreLater problem tie.from tie.to tie.forth
  pub back : AreLater problem tie.to tie.from tie.back
  pub few_forth : tie.forth ≤ problem.period
  pub few_back : tie.back ≤ problem.period

-- they are tied by an activity, from its first event to its second one or the other way round
abbrev pub TiesBy : ℕ → PespActivity → Tie → Type 0
TiesBy period activity tie =
    ((tie.from ≡ activity.from) × (tie.to ≡ activity.to) × (tie.forth ≡ ahead period activity)
    × (tie.back ≡ behind period activity))
    ⊎ ((tie.from ≡ activity.to) × (tie.to ≡ activity.from) × (tie.forth ≡ behind period activity)
    × (tie.back ≡ ahead period activity))

-- an event is so many minutes after the first one of its class, and that one so many after it
pub record IsPlaced (problem : Problem) (event : ℕ) (place : Place) : Type 0 where
  pub inside : place.first < problem.events
  pub there : AreLater problem place.first event place.there
  pub back : AreLater problem event place.first place.back
  pub few_there : place.there < problem.period
  pub few_back : place.back < problem.period

-- the events of a problem have places in classes, and the minutes that stand for each bring it back
-- to itself
pub record AreClasses (problem : Problem) (classes : Classes) : Type 0 where
  pub own : classes.pesp.now ≡ problem
  pub period : classes.period ≡ problem.period
  pub sound : IsProblem problem
  pub places : length classes.places.items ≡ problem.events
  pub shifts : length classes.shifts.items ≡ problem.events
  pub waiting : All (λ event. event < problem.events) classes.waiting.items
  pub placed : (event : ℕ) (other : Place) → event < problem.events
      → IsPlaced problem event (get_or classes.places.items event other)
  pub around : (event : ℕ) → event < problem.events
      → AreLater problem event event (get_or classes.shifts.items event 0)
  pub few_around : (event : ℕ) → event < problem.events
      → get_or classes.shifts.items event 0 < problem.period

-- the minutes that stand for each event bring it back to itself
pub record AreShifts (problem : Problem) (shifts : List ℕ) : Type 0 where
  pub size : length shifts ≡ problem.events
  pub around : (event : ℕ) → event < problem.events
      → AreLater problem event event (get_or shifts event 0)
  pub few : (event : ℕ) → event < problem.events → get_or shifts event 0 < problem.period

-- what is known of the activities of a problem: those at each event, and such minutes
pub record IsGraph (problem : Problem) (graph : ConstraintGraph) : Type 0 where
  pub links : AreLinks problem (length problem.activities) graph.links
  pub shifts : AreShifts problem graph.shifts.items

-- Times are taken out of the set of one event, and none of sets in which its times are left so many
-- minutes later, too.
pub record Closes (before after : Tracked) (event minutes : ℕ) : Type 0 where
  pub period : after.sets.columns ≡ before.sets.columns
  pub events : after.sets.rows ≡ before.sets.rows
  pub saved : after.saved ≡ before.saved
  pub within : IsWithin (is_left after.sets) (is_left before.sets)
  pub others : (other : ℕ) → (other ≡ event → ⊥)
      → is_left after.sets other ≡ is_left before.sets other
  pub keeps : (left : Left) → Repeats before.sets.columns (left event) minutes
      → IsWithin left (is_left before.sets) → IsWithin left (is_left after.sets)
  pub no_more : marks_left after.sets ≤ marks_left before.sets
