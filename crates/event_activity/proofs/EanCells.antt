-- The cells of events and of activities are in their columns.
use Rattle.plan_num.proofs.Common.{ℕ, ◌≤◌, arith, All, List, All-map, All-weaker}
use Rattle.tables.proofs.Common.{events_p_columns, activities_p_columns, InColumns}
use Rattle.event_tables.specs.declared.direction.Direction.TheVariants as direction
use Rattle.event_tables.specs.declared.event_kind.EventKind.TheVariants as event
use Rattle.event_tables.specs.declared.periodic_activity.PeriodicActivity.{PeriodicActivity}
use Rattle.event_tables.specs.declared.periodic_event.PeriodicEvent.{PeriodicEvent}
use Rattle.event_tables.proofs.Common.{periodic_event_cells, periodic_activity_cells}
use Rattle.event_activity.specs.declared.run_event.RunEvent.{RunEvent}
use Rattle.event_activity.specs.EanStage.{rows_of}
use Rattle.event_activity.specs.Fitting.{IsNumbered}
use Rattle.event_activity.proofs.MadeActivities.{IsNumberedOne}

event_in : (count : ℕ) → count ≤ 4000 → (one : RunEvent) → IsNumbered count one
    → InColumns events_p_columns (periodic_event_cells one.row)
event_in count few one is = grind arith

-- those of all events
pub events_in_columns : (count : ℕ) (events : List RunEvent) → count ≤ 4000
    → All (IsNumbered count) events
    → All (λ row. InColumns events_p_columns (periodic_event_cells row)) (rows_of events)
events_in_columns count events few numbered =
    All-map (λ (row : PeriodicEvent). InColumns events_p_columns (periodic_event_cells row))
    (λ (one : RunEvent). one.row) events
    (All-weaker (IsNumbered count)
    (λ one. InColumns events_p_columns (periodic_event_cells one.row)) (event_in count few) events
    numbered)

-- and those of all activities
pub activities_in_columns : (count many : ℕ) (activities : List PeriodicActivity) → count ≤ 4000
    → many ≤ 200000 → All (IsNumberedOne count many) activities
    → All (λ row. InColumns activities_p_columns (periodic_activity_cells row)) activities
activities_in_columns count many activities few short numbered = grind arith
