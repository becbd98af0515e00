-- The files of delays, and their rules.
use Rattle.std.specs.Prelude.{ℕ, pos, nat_eq, List, [], ◌∷◌, map, All}
use Rattle.std.specs.List.{IsDistinct}
use Rattle.tables.specs.declared.file_id.FileId.{FileId}
use Rattle.tables.specs.declared.file_id.FileId.TheVariants as file
use Rattle.tables.specs.declared.row_why.RowWhy.{RowWhy}
use Rattle.tables.specs.declared.row_why.RowWhy.TheVariants as why
use Rattle.tables.specs.Columns.{delays_columns}
use Rattle.tables.specs.Inputs.{Input, RowRule, own_id}
use Rattle.tables.specs.Writing.{InColumns}
use Rattle.event_tables.specs.declared.delay_row.DelayRow.{DelayRow}
use Rattle.event_tables.specs.Cells.{delay_row, delay_cells}
use Rattle.event_tables.specs.Places.{is_none_of, IsOneOf}

-- the rule that what is delayed is one of some
abbrev pub is_there : List ℕ → RowWhy → RowRule DelayRow
is_there ids unknown = record { is_broken = λ _ row. is_none_of ids row.id; why = unknown }

-- the rules of a delay over the ids of what may be delayed, in their order
abbrev pub delay_rules : RowWhy → List ℕ → List (RowRule DelayRow)
delay_rules unknown ids = is_there ids unknown ∷ own_id (λ row. pos row.id) ∷ []

-- a file of delays, over the ids of what may be delayed
abbrev pub delay_input : FileId → RowWhy → List ℕ → Input DelayRow
delay_input file unknown ids = record {
  file = file;
  columns = delays_columns;
  read = delay_row;
  limits = [];
  row_rules = delay_rules unknown ids;
  table_rules = [];
}

-- the delays of events, and those of activities
abbrev pub event_delay_input : List ℕ → Input DelayRow
event_delay_input events = delay_input file.EventDelays why.UnknownEvent events

abbrev pub activity_delay_input : List ℕ → Input DelayRow
activity_delay_input activities = delay_input file.ActivityDelays why.UnknownActivity activities

-- what holds of delays of so many events or activities: each has at most one
pub record AreDelays (count : ℕ) (rows : List DelayRow) : Type 0 where
  pub own : IsDistinct nat_eq (map (λ row. row.id) rows)
  pub there : All (λ row. IsOneOf count row.id) rows
  pub fit : All (λ row. InColumns delays_columns (delay_cells row)) rows
