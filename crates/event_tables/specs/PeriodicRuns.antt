-- Runs of periodic events, and what an activity of each kind joins.
use Rattle.std.specs.Prelude.{◌+◌, ◌==◌, Bool, ◌&&◌, not, if◌then◌else◌, List, [], ◌∷◌, drop}
use Rattle.std.specs.List.{zip}
use Rattle.event_tables.specs.declared.periodic_event.PeriodicEvent.{PeriodicEvent}
use Rattle.event_tables.specs.declared.periodic_kind.PeriodicKind.{PeriodicKind}
use Rattle.event_tables.specs.declared.periodic_kind.PeriodicKind.TheVariants as kind
use Rattle.event_tables.specs.Kinds.{is_arrival, same_direction}

-- two events that agree in line, direction and repetition
abbrev pub same_run : PeriodicEvent → PeriodicEvent → Bool
same_run event other = event.line == other.line && same_direction event.direction other.direction
    && event.repetition == other.repetition

-- an event and the one that comes next in its run
abbrev pub is_next : PeriodicEvent → PeriodicEvent → Bool
is_next event next = same_run event next && next.id == event.id + 1

-- a drive goes from a departure to the next event of its run
abbrev pub drives : PeriodicEvent → PeriodicEvent → Bool
drives event next = not (is_arrival event.kind) && is_next event next

-- a wait goes from an arrival to the next event of its run
abbrev pub waits : PeriodicEvent → PeriodicEvent → Bool
waits event next = is_arrival event.kind && is_next event next

-- a change goes from an arrival to a departure at the same stop of another line
abbrev pub changes : PeriodicEvent → PeriodicEvent → Bool
changes event next = is_arrival event.kind && not (is_arrival next.kind) && event.stop == next.stop
    && not (event.line == next.line)

-- a sync joins two departures
abbrev pub syncs : PeriodicEvent → PeriodicEvent → Bool
syncs event next = not (is_arrival event.kind) && not (is_arrival next.kind)

-- a headway joins two departures at the same stop
abbrev pub headways : PeriodicEvent → PeriodicEvent → Bool
headways event next = syncs event next && event.stop == next.stop

-- which two events an activity of a kind may join
abbrev pub joins : PeriodicKind → PeriodicEvent → PeriodicEvent → Bool
joins kind.Drive = drives
joins kind.Wait = waits
joins kind.Change = changes
joins kind.Sync = syncs
joins kind.Headway = headways

-- an event before runs: it begins the first of them where it agrees with that one's first event, and else
-- a run of its own
abbrev pub before_runs : PeriodicEvent → List (List PeriodicEvent) → List (List PeriodicEvent)
before_runs event ((next ∷ run) ∷ runs) =
    if same_run event next then (event ∷ next ∷ run) ∷ runs else (event ∷ []) ∷ (next ∷ run) ∷ runs
before_runs event runs = (event ∷ []) ∷ runs

-- the runs of events: they are cut wherever two neighbours do not agree
unfoldable pub runs_of : List PeriodicEvent → List (List PeriodicEvent)
runs_of [] = []
runs_of (event ∷ events) = before_runs event (runs_of events)

-- each event of a run but the last one, with the next one
abbrev pub neighbours : List PeriodicEvent → List (PeriodicEvent × PeriodicEvent)
neighbours run = zip run (drop 1 run)
