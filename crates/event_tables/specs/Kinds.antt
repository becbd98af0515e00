-- Kinds and directions, by the places of their words.
use Rattle.std.specs.Prelude.{ℕ, Bool, true, false, [], ◌∷◌, get_or}
use Rattle.event_tables.specs.declared.activity_kind.ActivityKind.{ActivityKind}
use Rattle.event_tables.specs.declared.activity_kind.ActivityKind.TheVariants as activity
use Rattle.event_tables.specs.declared.direction.Direction.{Direction}
use Rattle.event_tables.specs.declared.direction.Direction.TheVariants as direction
use Rattle.event_tables.specs.declared.event_kind.EventKind.{EventKind}
use Rattle.event_tables.specs.declared.event_kind.EventKind.TheVariants as event
use Rattle.event_tables.specs.declared.periodic_kind.PeriodicKind.{PeriodicKind}
use Rattle.event_tables.specs.declared.periodic_kind.PeriodicKind.TheVariants as periodic
use Rattle.event_tables.specs.declared.schedule_kind.ScheduleKind.{ScheduleKind}
use Rattle.event_tables.specs.declared.schedule_kind.ScheduleKind.TheVariants as schedule

-- what the word at a place stands for
abbrev pub event_kind_at : ℕ → EventKind
event_kind_at place = get_or (event.Departure ∷ event.Arrival ∷ []) place event.Departure

abbrev pub direction_at : ℕ → Direction
direction_at place = get_or (direction.Forward ∷ direction.Backward ∷ []) place direction.Forward

abbrev pub activity_kind_at : ℕ → ActivityKind
activity_kind_at place =
    get_or (activity.Drive ∷ activity.Wait ∷ activity.Change ∷ activity.Sync
    ∷ []) place activity.Drive

abbrev pub periodic_kind_at : ℕ → PeriodicKind
periodic_kind_at place =
    get_or (periodic.Drive ∷ periodic.Wait ∷ periodic.Change ∷ periodic.Sync ∷ periodic.Headway
    ∷ []) place periodic.Drive

abbrev pub schedule_kind_at : ℕ → ScheduleKind
schedule_kind_at place = get_or (schedule.Trip ∷ schedule.Empty ∷ []) place schedule.Trip

-- the place of the word for it
abbrev pub event_kind_place : EventKind → ℕ
event_kind_place event.Departure = 0
event_kind_place event.Arrival = 1

abbrev pub direction_place : Direction → ℕ
direction_place direction.Forward = 0
direction_place direction.Backward = 1

abbrev pub activity_kind_place : ActivityKind → ℕ
activity_kind_place activity.Drive = 0
activity_kind_place activity.Wait = 1
activity_kind_place activity.Change = 2
activity_kind_place activity.Sync = 3

abbrev pub periodic_kind_place : PeriodicKind → ℕ
periodic_kind_place periodic.Drive = 0
periodic_kind_place periodic.Wait = 1
periodic_kind_place periodic.Change = 2
periodic_kind_place periodic.Sync = 3
periodic_kind_place periodic.Headway = 4

abbrev pub schedule_kind_place : ScheduleKind → ℕ
schedule_kind_place schedule.Trip = 0
schedule_kind_place schedule.Empty = 1

-- tests of a kind
abbrev pub is_arrival : EventKind → Bool
is_arrival event.Departure = false
is_arrival event.Arrival = true

abbrev pub is_sync : ActivityKind → Bool
is_sync activity.Sync = true
is_sync _ = false

abbrev pub is_empty : ScheduleKind → Bool
is_empty schedule.Trip = false
is_empty schedule.Empty = true

-- two directions that are one
abbrev pub same_direction : Direction → Direction → Bool
same_direction direction.Forward direction.Forward = true
same_direction direction.Backward direction.Backward = true
same_direction _ _ = false
