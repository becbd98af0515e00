-- Texts of periodic event scheduling: what their rows say.
use Rattle.std.specs.Prelude.{◌≡◌, ℕ, ℤ, pos, ◌<◌, ◌==◌, if◌then◌else◌, List, [], ◌++◌, Option, Some}
use Rattle.std.specs.Prelude.{length, slice_get, slice_index_or, slice_set, All}
use Rattle.std.specs.List.{IsDistinct}
use Rattle.std.specs.Ordering.{int_eq}
use Rattle.plan_num.specs.Number.{whole_of}
use Rattle.text_fields.specs.Rows.{Row, rows}
use Rattle.pesp_judge.specs.declared.weighted.WeightedActivity.{WeightedActivity}
use Rattle.pesp.specs.Timetables.{IsTimetable}
use Rattle.pesp_judge.specs.Weighted.{IsBound, WeightedProblem, problem_of}

-- a semicolon in the place of a separator
abbrev pub semicolon_for : ℕ → ℕ → ℕ
semicolon_for separator byte = if byte == separator then 59 else byte

-- the whole number that a field of a row spells
abbrev pub number_in : Row → ℕ → Option ℤ
number_in row place = whole_of (slice_index_or row.fields place [])

-- a number names the event at a place
abbrev pub IsNamed : List ℤ → ℕ → Option ℤ → Type 0
IsNamed names event number =
    (name : ℤ) × (number ≡ Some name) × (slice_get names event ≡ Some name)

-- a row has an activity: its events by their names, its bounds and its weight
pub record IsActivityRow (names : List ℤ) (it : WeightedActivity) (row : Row) : Type 0 where
  pub six : length row.fields ≡ 6
  pub from : IsNamed names it.activity.from (number_in row 1)
  pub to : IsNamed names it.activity.to (number_in row 2)
  pub lower : number_in row 3 ≡ Some it.activity.lower
  pub upper : number_in row 4 ≡ Some it.activity.upper
  pub weight : number_in row 5 ≡ Some (pos it.weight)

-- rows have activities, one each, in their order
pub record AreActivityRows (names : List ℤ) (activities : List WeightedActivity)
    (rows : List Row) : Type 0 where
  pub each : length activities ≡ length rows
  pub are : (place : ℕ) (it : WeightedActivity) (row : Row)
      → slice_get activities place ≡ Some it → slice_get rows place ≡ Some row
      → IsActivityRow names it row

-- names stay where they are, and there may be more
abbrev pub Extends : List ℤ → List ℤ → Type 0
Extends old new =
    (place : ℕ) (name : ℤ) → slice_get old place ≡ Some name → slice_get new place ≡ Some name

-- rows have activities, after those of others
pub record AreRead (names : List ℤ) (activities : List WeightedActivity) (all left : List Row)
    : Type 0 where
  pub done : List Row
  pub whole : done ++ left ≡ all
  pub are : AreActivityRows names activities done

-- a text says a problem: its rows have the activities, and each event has a name of its own
pub record Says (text : List ℕ) (period : ℕ) (names : List ℤ) (weighted : WeightedProblem) : Type 0
  where
    pub period_is : weighted.period ≡ period
    pub events : weighted.events ≡ length names
    pub distinct : IsDistinct int_eq names
    pub rows_are : AreActivityRows names weighted.activities (rows text)

-- a row has the time of an event
pub record IsTimeRow (names : List ℤ) (event time : ℕ) (row : Row) : Type 0 where
  pub two : length row.fields ≡ 2
  pub event_is : IsNamed names event (number_in row 0)
  pub time_is : number_in row 1 ≡ Some (pos time)

-- some of rows has the time of an event
pub record IsTold (names : List ℤ) (rows : List Row) (event time : ℕ) : Type 0 where
  pub place : ℕ
  pub row : Row
  pub there : slice_get rows place ≡ Some row
  pub is : IsTimeRow names event time row

-- a text says times: one in the period for each event, each of which some row has
pub record SaysTimes (text : List ℕ) (period : ℕ) (names : List ℤ) (times : List ℕ) : Type 0 where
  pub each : length times ≡ length names
  pub within : All (λ time. time < period) times
  pub told : (event : ℕ) → event < length times
      → IsTold names (rows text) event (slice_index_or times event 0)

-- a row gives an event its time
pub record GivesTime (names : List ℤ) (period : ℕ) (row : Row) (old new : List ℕ) : Type 0 where
  pub event : ℕ
  pub time : ℕ
  pub is : IsTimeRow names event time row
  pub small : time < period
  pub new_is : new ≡ slice_set old event time

-- rows are read, and the times that they gave stand
pub record AreTimed (names : List ℤ) (period none : ℕ) (all left : List Row) (times : List ℕ)
    : Type 0 where
  pub done : List Row
  pub whole : done ++ left ≡ all
  pub told : (event : ℕ) → event < length times → ¬ (slice_index_or times event 0 ≡ none)
      → IsTold names done event (slice_index_or times event 0)
      × (slice_index_or times event 0 < period)

-- no timetable of the problem of a text has less weighted slack than a claim
pub record Bounds (text : List ℕ) (period : ℕ) (claim : ℤ) : Type 0 where
  pub names : List ℤ
  pub weighted : WeightedProblem
  pub says : Says text period names weighted
  pub bound : IsBound weighted claim

-- the problem of a text has no timetable
pub record NoTimetable (text : List ℕ) (period : ℕ) : Type 0 where
  pub names : List ℤ
  pub weighted : WeightedProblem
  pub says : Says text period names weighted
  pub none : (times : List ℕ) → IsTimetable (problem_of weighted) times → ⊥

-- the number of the row at an index, where there is one
abbrev pub IsNumberOf : List Row → ℕ → ℕ → Type 0
IsNumberOf rows index number =
    (row : Row) → slice_get rows index ≡ Some row → number ≡ row.number
