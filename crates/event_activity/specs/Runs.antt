-- The events of a line concept, run by run.
use Rattle.std.specs.Prelude.{ℕ, pos, ◌+◌, ◌*◌, ◌/◌, ◌%◌, ◌≤◌, ◌≤ℤ◌, List, [], ◌++◌, length, map, reverse, slice_index_or, unsigned_abs, All}
use Rattle.std.specs.List.{flat_map, range_with_len, enumerate_from}
use Rattle.event_tables.specs.declared.direction.Direction.{Direction}
use Rattle.event_tables.specs.declared.direction.Direction.TheVariants as direction
use Rattle.event_tables.specs.Kinds.{event_kind_at}
use Rattle.event_activity.specs.declared.run_event.RunEvent.{RunEvent}
use Rattle.line_walks.specs.Pools.{LineParts, AreLines}
use Rattle.walks.specs.declared.edge.Edge.{Edge}
use Rattle.walks.specs.Networks.{NetworkParts, IsNetwork}

-- what stands along a line, in a direction
abbrev pub along : Direction → List ℕ → List ℕ
along direction.Forward things = things
along direction.Backward things = reverse things

-- the id of the stop at an index, and the edge at one
abbrev pub stop_id : NetworkParts → ℕ → ℕ
stop_id network stop = unsigned_abs (slice_index_or network.stops stop (pos 0))

abbrev pub no_edge : Edge
no_edge =
    record { id = pos 0; left = 0; right = 0; length = pos 0; lower = pos 0; upper = pos 0 }

abbrev pub edge_at : NetworkParts → ℕ → Edge
edge_at network edge = slice_index_or network.edges edge no_edge

-- the event at a place of a run: departures and arrivals alternate, and each two of them are one
-- drive over one edge more; it has no number yet
abbrev pub run_event : NetworkParts → LineParts → Direction → ℕ → ℕ → RunEvent
run_event network line direction repetition place = record {
  row = record {
    id = 0;
    kind = event_kind_at (place % 2);
    stop = stop_id network (slice_index_or (along direction line.stops) ((place + 1) / 2) 0);
    line = unsigned_abs line.id;
    direction = direction;
    repetition = repetition;
  };
  place = place;
  edge = edge_at network (slice_index_or (along direction line.edges) (place / 2) 0);
  frequency = line.frequency;
}

-- a run: a departure and an arrival for each edge of the line
abbrev pub run : NetworkParts → LineParts → Direction → ℕ → List RunEvent
run network line direction repetition =
    map (run_event network line direction repetition)
    (range_with_len 0 (2 * length line.edges))

-- the runs of a line in a direction: as many as its frequency, counted from 1
abbrev pub runs : NetworkParts → LineParts → Direction → List RunEvent
runs network line direction =
    flat_map (run network line direction) (range_with_len 1 line.frequency)

-- the runs of a line: those along it, and then those back
abbrev pub line_events : NetworkParts → LineParts → List RunEvent
line_events network line =
    runs network line direction.Forward ++ runs network line direction.Backward

-- an event with a number as its id
abbrev pub with_id : ℕ × RunEvent → RunEvent
with_id at = record at.1 { row = record at.1.row { id = at.0 } }

-- events with their places as ids, from 1
abbrev pub with_ids : List RunEvent → List RunEvent
with_ids events = map with_id (enumerate_from 1 events)

-- the events of lines, numbered by line, direction, repetition and place
unfoldable pub concept_events : NetworkParts → List LineParts → List RunEvent
concept_events network lines = with_ids (flat_map (line_events network) lines)

-- the line at a place of a concept
abbrev pub no_line : LineParts
no_line = record { id = pos 0; edges = []; stops = []; frequency = 0 }

abbrev pub line_at : List LineParts → ℕ → LineParts
line_at lines line = slice_index_or lines line no_line

-- a network whose stops have ids in their range, and lines over it
pub record AreServed (network : NetworkParts) (lines : List LineParts) : Type 0 where
  pub network_is : IsNetwork network
  pub stop_ids : All (λ id. (pos 1 ≤ℤ id) × (id ≤ℤ pos 1000000000)) network.stops
  pub lines_are : AreLines network.edges lines
  pub short : All (λ line. length line.edges ≤ 1000) lines
