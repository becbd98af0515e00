-- What the events of a line concept are, in plain words.
use Rattle.std.specs.Prelude.{ℕ, ◌≡◌, ◌*◌, ◌<◌, ◌≤◌, List, length, All, Contains}
use Rattle.event_tables.specs.declared.direction.Direction.{Direction}
use Rattle.event_tables.specs.Places.{AreNumbered}
use Rattle.line_walks.specs.Pools.{LineParts}
use Rattle.walks.specs.Networks.{NetworkParts}
use Rattle.event_activity.specs.declared.run_event.RunEvent.{RunEvent}
use Rattle.event_activity.specs.Runs.{run_event, with_id}

-- An event is one of a run of a line: the run goes in one of both directions and is a repetition
-- from the first one up to the frequency, and two events of it belong to each edge.
pub record IsEventOf (network : NetworkParts) (lines : List LineParts)
    (event : RunEvent) : Type 0 where
  pub line : LineParts
  pub direction : Direction
  pub repetition : ℕ
  pub place : ℕ
  pub there : Contains lines line
  pub first : 1 ≤ repetition
  pub often : repetition ≤ line.frequency
  pub within : place < 2 * length line.edges
  pub same : event ≡ with_id (event.row.id, run_event network line direction repetition place)

-- The events are those of all runs of the lines and no others, and are numbered in their order.
pub record AreEventsOf (network : NetworkParts) (lines : List LineParts)
    (events : List RunEvent) : Type 0 where
  pub numbered : AreNumbered (λ event. event.row.id) events
  pub sound : All (IsEventOf network lines) events
  pub whole : (event : RunEvent) → IsEventOf network lines event → (number : ℕ)
      × Contains events (with_id (number, event))
