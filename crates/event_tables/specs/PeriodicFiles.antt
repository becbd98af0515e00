-- The files of periodic events, of periodic activities and of periodic times, and their rules.
use Rattle.std.specs.Prelude.{ℕ, ◌≡◌, ◌≤◌, ◌<◌, nat_le, List, [], ◌∷◌, length, map, All}
use Rattle.tables.specs.declared.counted.Counted.TheVariants as counted
use Rattle.tables.specs.declared.file_id.FileId.{FileId}
use Rattle.tables.specs.declared.file_id.FileId.TheVariants as file
use Rattle.tables.specs.declared.row_why.RowWhy.TheVariants as why
use Rattle.tables.specs.Columns.{events_p_columns, activities_p_columns, times_p_columns}
use Rattle.tables.specs.Inputs.{Input, RowRule, row_limit}
use Rattle.tables.specs.Writing.{InColumns}
use Rattle.event_tables.specs.declared.periodic_activity.PeriodicActivity.{PeriodicActivity}
use Rattle.event_tables.specs.declared.periodic_event.PeriodicEvent.{PeriodicEvent}
use Rattle.event_tables.specs.declared.periodic_time.PeriodicTime.{PeriodicTime}
use Rattle.event_tables.specs.Cells.{periodic_event, periodic_activity, periodic_time, periodic_event_cells}
use Rattle.event_tables.specs.Cells.{periodic_activity_cells, periodic_time_cells}
use Rattle.event_tables.specs.Places.{own_place, known_event, known_ends, bounds_in_order, all_there, AreNumbered}
use Rattle.event_tables.specs.Places.{IsOneOf}

-- the file of periodic events, which are numbered in their order
abbrev pub periodic_event_input : Input PeriodicEvent
periodic_event_input = record {
  file = file.EventsP;
  columns = events_p_columns;
  read = periodic_event;
  limits = row_limit counted.PeriodicEvents 4000 ∷ [];
  row_rules = own_place (λ event. event.id) ∷ [];
  table_rules = [];
}

-- the ids of periodic events
abbrev pub periodic_event_ids : List PeriodicEvent → List ℕ
periodic_event_ids events = map (λ event. event.id) events

-- the rules of a periodic activity over the ids of the events, in their order
abbrev pub periodic_activity_rules : List ℕ → List (RowRule PeriodicActivity)
periodic_activity_rules events =
    own_place (λ row. row.id) ∷ known_ends events (λ row. row.from) (λ row. row.to)
    ∷ bounds_in_order (λ row. row.lower) (λ row. row.upper) ∷ []

-- the file of periodic activities over the ids of the events; they are numbered in their order too
abbrev pub periodic_activity_input : List ℕ → Input PeriodicActivity
periodic_activity_input events = record {
  file = file.ActivitiesP;
  columns = activities_p_columns;
  read = periodic_activity;
  limits = row_limit counted.PeriodicActivities 200000 ∷ [];
  row_rules = periodic_activity_rules events;
  table_rules = [];
}

-- the rule that a time lies in the period
abbrev pub in_period : ℕ → RowRule PeriodicTime
in_period period = record { is_broken = λ _ row. nat_le period row.time; why = why.OutOfPeriod }

-- the rules of a periodic time over the ids of the events, in their order
abbrev pub periodic_time_rules : ℕ → List ℕ → List (RowRule PeriodicTime)
periodic_time_rules period events =
    own_place (λ row. row.event) ∷ known_event events (λ row. row.event) ∷ in_period period ∷ []

-- a file of periodic times over the ids of the events, in whose order its rows stand
abbrev pub periodic_time_input : FileId → ℕ → List ℕ → Input PeriodicTime
periodic_time_input file period events = record {
  file = file;
  columns = times_p_columns;
  read = periodic_time;
  limits = [];
  row_rules = periodic_time_rules period events;
  table_rules = all_there events (λ row. row.event) ∷ [];
}

-- what holds of periodic events: ids are places, there are not too many, and each fits its row
pub record ArePeriodicEvents (events : List PeriodicEvent) : Type 0 where
  pub numbered : AreNumbered (λ event. event.id) events
  pub few : length events ≤ 4000
  pub fit : All (λ event. InColumns events_p_columns (periodic_event_cells event)) events

-- an activity between two of so many events, with bounds in order
pub record IsPeriodicActivity (events : ℕ) (activity : PeriodicActivity) : Type 0 where
  pub from : IsOneOf events activity.from
  pub to : IsOneOf events activity.to
  pub in_order : activity.lower ≤ activity.upper

-- what holds of periodic activities between so many events
pub record ArePeriodicActivities (events : ℕ) (activities : List PeriodicActivity) : Type 0 where
  pub numbered : AreNumbered (λ activity. activity.id) activities
  pub few : length activities ≤ 200000
  pub each : All (IsPeriodicActivity events) activities
  pub fit : All (λ row. InColumns activities_p_columns (periodic_activity_cells row)) activities

-- what holds of periodic times of so many events: one each, in their order, in the period
pub record ArePeriodicTimes (period events : ℕ) (times : List PeriodicTime) : Type 0 where
  pub numbered : AreNumbered (λ row. row.event) times
  pub each_event : length times ≡ events
  pub in_period : All (λ row. row.time < period) times
  pub fit : All (λ row. InColumns times_p_columns (periodic_time_cells row)) times
