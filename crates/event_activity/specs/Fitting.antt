-- What keeps events and activities within their columns.
use Rattle.std.specs.Prelude.{ℕ, ◌-◌, ◌≤◌, List, unsigned_abs}
use Rattle.giv_files.specs.declared.key.Key.TheVariants as key
use Rattle.giv_files.specs.declared.setting.Setting.{Setting}
use Rattle.giv_files.specs.Settings.{amount}
use Rattle.walks.specs.declared.edge.Edge.{Edge}
use Rattle.event_activity.specs.declared.bounds.Bounds.{Bounds}
use Rattle.event_activity.specs.declared.run_event.RunEvent.{RunEvent}

-- bounds in order, and not too great
pub record AreBounds (bounds : Bounds) : Type 0 where
  pub in_order : bounds.lower ≤ bounds.upper
  pub soon : bounds.upper ≤ 10000

-- a number from 1 on that fits an id
abbrev pub IsId : ℕ → Type 0
IsId id = (1 ≤ id) × (id ≤ 1000000000)

-- the bounds of the drives over an edge
abbrev pub drive_bounds : Edge → Bounds
drive_bounds edge = record { lower = unsigned_abs edge.lower; upper = unsigned_abs edge.upper }

-- an event of a line that is driven, before it has a number
pub record IsDriven (event : RunEvent) : Type 0 where
  pub stop : IsId event.row.stop
  pub line : IsId event.row.line
  pub repetition : IsId event.row.repetition
  pub served : 1 ≤ event.frequency
  pub edge : AreBounds (drive_bounds event.edge)

-- an event that is numbered too, from 1 to a number
pub record IsNumbered (count : ℕ) (event : RunEvent) : Type 0 where
  pub driven : IsDriven event
  pub first : 1 ≤ event.row.id
  pub last : event.row.id ≤ count

-- settings whose bounds are in order and not too great
pub record AreTimely (settings : List Setting) : Type 0 where
  pub period : amount settings key.PeriodLength ≤ 720
  pub waits : AreBounds (record {
    lower = amount settings key.EanDefaultMinimalWaitingTime;
    upper = amount settings key.EanDefaultMaximalWaitingTime;
  })
  pub changes : AreBounds (record {
    lower = amount settings key.EanDefaultMinimalChangeTime;
    upper = amount settings key.EanDefaultMaximalChangeTime;
  })
  pub headways : AreBounds (record {
    lower = amount settings key.EanHeadway;
    upper = amount settings key.PeriodLength - amount settings key.EanHeadway;
  })
