-- The file of disposed times, and its rules.
use Rattle.std.specs.Prelude.{ℕ, ◌≡◌, List, [], ◌∷◌, length, All}
use Rattle.tables.specs.declared.file_id.FileId.TheVariants as file
use Rattle.tables.specs.Columns.{disposed_columns}
use Rattle.tables.specs.Inputs.{Input, RowRule}
use Rattle.tables.specs.Writing.{InColumns}
use Rattle.event_tables.specs.declared.disposed_time.DisposedTime.{DisposedTime}
use Rattle.event_tables.specs.Cells.{disposed_time, disposed_time_cells}
use Rattle.event_tables.specs.Places.{own_place, known_event, all_there, AreNumbered}

-- the rules of a disposed time over the ids of the events, in their order
abbrev pub disposed_time_rules : List ℕ → List (RowRule DisposedTime)
disposed_time_rules events =
    own_place (λ row. row.event) ∷ known_event events (λ row. row.event) ∷ []

-- the file of disposed times over the ids of the events, in whose order its rows stand
abbrev pub disposed_time_input : List ℕ → Input DisposedTime
disposed_time_input events = record {
  file = file.Disposed;
  columns = disposed_columns;
  read = disposed_time;
  limits = [];
  row_rules = disposed_time_rules events;
  table_rules = all_there events (λ row. row.event) ∷ [];
}

-- what holds of disposed times of so many events: one each, in their order
pub record AreDisposedTimes (events : ℕ) (times : List DisposedTime) : Type 0 where
  pub numbered : AreNumbered (λ row. row.event) times
  pub each_event : length times ≡ events
  pub fit : All (λ row. InColumns disposed_columns (disposed_time_cells row)) times
