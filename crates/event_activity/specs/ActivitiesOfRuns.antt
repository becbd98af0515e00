-- What the activities between the events of a line concept are, in plain words.
use Rattle.std.specs.Prelude.{ℕ, ◌≡◌, ◌⊎◌, Bool, ◌&&◌, true, List, Contains}
use Rattle.giv_files.specs.declared.setting.Setting.{Setting}
use Rattle.event_tables.specs.declared.periodic_activity.PeriodicActivity.{PeriodicActivity}
use Rattle.event_tables.specs.declared.periodic_kind.PeriodicKind.{PeriodicKind}
use Rattle.event_tables.specs.declared.periodic_kind.PeriodicKind.TheVariants as kind
use Rattle.event_tables.specs.PeriodicRuns.{drives, waits, changes}
use Rattle.event_tables.specs.Places.{AreNumbered}
use Rattle.walks.specs.declared.edge.Edge.{Edge}
use Rattle.walks.specs.Networks.{NetworkParts}
use Rattle.event_activity.specs.declared.bounds.Bounds.{Bounds}
use Rattle.event_activity.specs.declared.run_event.RunEvent.{RunEvent}
use Rattle.event_activity.specs.Activities.{bounds_from, keeps_headway, repeats, shares_edge, with_number}
use Rattle.event_activity.specs.Fitting.{drive_bounds}
use Rattle.event_activity.specs.Runs.{stop_id}

-- the bounds of an activity
abbrev pub bounds_of : PeriodicActivity → Bounds
bounds_of activity = record { lower = activity.lower; upper = activity.upper }

-- which two events an activity of a kind joins
abbrev pub joins_events : List Setting → PeriodicKind → RunEvent → RunEvent → Bool
joins_events settings kind.Drive event next = drives event.row next.row
joins_events settings kind.Wait event next = waits event.row next.row
joins_events settings kind.Change event next = changes event.row next.row
joins_events settings kind.Sync event next = repeats event next
joins_events settings kind.Headway event next = keeps_headway settings && shares_edge event next

-- An activity goes from one of some events to another, and joins them as its kind does, with the
-- bounds of its kind.
pub record IsActivityOf (settings : List Setting) (events : List RunEvent)
    (activity : PeriodicActivity) : Type 0 where
  pub event : RunEvent
  pub next : RunEvent
  pub there : Contains events event
  pub also : Contains events next
  pub from : activity.from ≡ event.row.id
  pub to : activity.to ≡ next.row.id
  pub joins : joins_events settings activity.kind event next ≡ true
  pub bounds : bounds_of activity ≡ bounds_from settings activity.kind event

-- The activities are those between events and no others, and are numbered in their order.
pub record AreActivitiesOf (settings : List Setting) (events : List RunEvent)
    (activities : List PeriodicActivity) : Type 0 where
  pub numbered : AreNumbered (λ activity. activity.id) activities
  pub sound : (activity : PeriodicActivity) → Contains activities activity
      → IsActivityOf settings events activity
  pub whole : (activity : PeriodicActivity) → IsActivityOf settings events activity → (number : ℕ)
      × Contains activities (with_number (number, activity))

-- two events are at the two ends of an edge, either way
abbrev pub Crosses : NetworkParts → Edge → RunEvent → RunEvent → Type 0
Crosses network edge event next =
    ((event.row.stop ≡ stop_id network edge.left) × (next.row.stop ≡ stop_id network edge.right))
    ⊎ ((event.row.stop ≡ stop_id network edge.right) × (next.row.stop ≡ stop_id network edge.left))

-- A drive goes over an edge of the network, from the one of its ends to the other, with its bounds.
pub record IsDriveOver (network : NetworkParts) (events : List RunEvent)
    (activity : PeriodicActivity) : Type 0 where
  pub edge : Edge
  pub event : RunEvent
  pub next : RunEvent
  pub there : Contains network.edges edge
  pub leaves : Contains events event × (activity.from ≡ event.row.id)
  pub comes : Contains events next × (activity.to ≡ next.row.id)
  pub crosses : Crosses network edge event next
  pub bounds : bounds_of activity ≡ drive_bounds edge
