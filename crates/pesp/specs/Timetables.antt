-- Periodic event scheduling: problems, timetables, and the tensions of activities.
use Rattle.std.specs.Prelude.{ℕ, ℤ, pos, ◌≡◌, ◌<◌, ◌≤◌, ◌+◌, ◌%◌, ◌+ℤ◌, ◌-ℤ◌, ◌≤ℤ◌, int_le, not, Bool, List, length, position, slice_index, slice_get, Option, Some, None, All}
use Rattle.std.specs.Int.{int_rem_euclid}
use Rattle.pesp.specs.declared.activity.PespActivity.{PespActivity}

-- a problem: a period, so many events, and activities between them by their indexes
pub record Problem : Type 0 where
  pub period : ℕ
  pub events : ℕ
  pub activities : List PespActivity

-- the minutes by which an activity takes longer than its lower bound, from the time of its first
-- event to the next time of its second one
abbrev pub slack : ℕ → ℤ → ℕ → ℕ → ℤ
slack period lower from to = int_rem_euclid (pos to -ℤ pos from -ℤ lower) (pos period)

-- the tension: the minutes that an activity takes
abbrev pub tension : ℕ → ℤ → ℕ → ℕ → ℤ
tension period lower from to = lower +ℤ slack period lower from to

-- an activity keeps its bounds between two times
abbrev pub keeps : ℕ → PespActivity → ℕ → ℕ → Bool
keeps period activity from to = int_le (tension period activity.lower from to) activity.upper

-- the time of an event among the times of all
abbrev pub time_of : List ℕ → ℕ → ℕ
time_of times event = slice_index times event

-- an activity keeps its bounds in a timetable
abbrev pub keeps_in : ℕ → List ℕ → PespActivity → Bool
keeps_in period times activity =
    keeps period activity (time_of times activity.from) (time_of times activity.to)

-- the first activity that breaks its bounds
unfoldable pub first_broken : Problem → List ℕ → Option ℕ
first_broken problem times =
    position (λ activity. not (keeps_in problem.period times activity)) problem.activities

-- ---- in the words of the subject

-- so many minutes after the one time it is the other time of the period, in the same period or in a
-- later one
abbrev pub Leads : ℕ → ℕ → ℕ → ℕ → Type 0
Leads period from to minutes = (from + minutes) % period ≡ to

-- an activity can take minutes within its bounds
pub record IsKept (period : ℕ) (times : List ℕ) (activity : PespActivity) : Type 0 where
  pub minutes : ℕ
  pub leads : Leads period (time_of times activity.from) (time_of times activity.to) minutes
  pub enough : activity.lower ≤ℤ pos minutes
  pub short : pos minutes ≤ℤ activity.upper

-- a timetable of a problem: one time in the period for each event, such that every activity is kept
pub record IsTimetable (problem : Problem) (times : List ℕ) : Type 0 where
  pub each : length times ≡ problem.events
  pub within : All (λ time. time < problem.period) times
  pub kept : All (IsKept problem.period times) problem.activities

-- the tension is the least time that an activity can take
pub record IsTension (period : ℕ) (lower : ℤ) (from to minutes : ℕ) : Type 0 where
  pub leads : Leads period from to minutes
  pub enough : lower ≤ℤ pos minutes
  pub least : (other : ℕ) → Leads period from to other → lower ≤ℤ pos other → minutes ≤ other

-- an activity is the first one that is not kept, or all are kept
abbrev pub IsFirstBroken : Problem → List ℕ → Option ℕ → Type 0
IsFirstBroken problem times None = IsTimetable problem times
IsFirstBroken problem times (Some index) = (index < length problem.activities)
    × ((activity : PespActivity) → slice_get problem.activities index ≡ Some activity
    → ¬ IsKept problem.period times activity)
    × ((earlier : ℕ) (activity : PespActivity) → earlier < index
    → slice_get problem.activities earlier ≡ Some activity → IsKept problem.period times activity)

-- what always holds of a problem that was read: a period, and activities that go from event to
-- event within bounds in order
pub record IsActivity (events : ℕ) (activity : PespActivity) : Type 0 where
  pub from : activity.from < events
  pub to : activity.to < events
  pub low : pos 0 ≤ℤ activity.lower
  pub in_order : activity.lower ≤ℤ activity.upper
  pub high : activity.upper ≤ℤ pos 100000

pub record IsProblem (problem : Problem) : Type 0 where
  pub some : 1 ≤ problem.period
  pub few : problem.period ≤ 720
  pub few_events : problem.events ≤ 4000
  pub few_activities : length problem.activities ≤ 200000
  pub sound : All (IsActivity problem.events) problem.activities
