-- What holds of the events of lines.
use Rattle.plan_num.proofs.Common.{◌≡◌, ℕ, ◌*◌, ◌/◌, ◌<◌, ◌≤◌, arith, All, List, length, get_or}
use Rattle.plan_num.proofs.Common.{subst, sym, flat_map, range_with_len, All-append, All-map}
use Rattle.plan_num.proofs.Common.{All-weaker, All-get_or, All-from_get_or}
use Rattle.event_tables.specs.declared.direction.Direction.{Direction}
use Rattle.event_tables.specs.declared.direction.Direction.TheVariants as direction
use Rattle.line_walks.specs.Pools.{LineParts, IsLine}
use Rattle.walks.specs.declared.edge.Edge.{Edge}
use Rattle.walks.proofs.Common.{NetworkParts, IsEdge}
use Rattle.plan_num.proofs.Members.{All-flat_map as all_parts}
use Rattle.event_activity.specs.declared.run_event.RunEvent.{RunEvent}
use Rattle.event_activity.specs.Fitting.{AreBounds, drive_bounds, IsDriven, IsNumbered}
use Rattle.event_activity.specs.Runs.{AreServed, along, no_edge, no_line, line_at, edge_at, run_event, run, runs, line_events, with_id, concept_events}
use Rattle.event_activity.proofs.Along.{all_along, length-along}
use Rattle.event_activity.proofs.LineEvents.{numbered_size}
use Rattle.plan_num.proofs.Numbered.{all_numbers, all_numbered}
use Rattle.event_activity.proofs.StopsOfRuns.{stop_within, id_within}

-- the bounds of the drives over an edge
drive_good : (count : ℕ) (edge : Edge) → IsEdge count edge → AreBounds (drive_bounds edge)
drive_good count edge is = grind arith

module _ (network : NetworkParts) (lines : List LineParts) (served : AreServed network lines)
    (line : ℕ) (h : line < length lines) where
  line_is : IsLine network.edges (line_at lines line)
  line_is = All-get_or (IsLine network.edges) lines line no_line h served.lines_are.each

  edge_good : (way : Direction) (place : ℕ) → place < 2 * length (line_at lines line).edges
      → AreBounds (drive_bounds (edge_at network
      (get_or (along way (line_at lines line).edges) (place / 2) 0)))
  edge_good way place inside =
      let edges = (line_at lines line).edges in
      let there : place / 2 < length (along way edges) =
      omega (arith, inside, length-along way edges) in
      let index = All-get_or (λ index. index < length network.edges) (along way edges) (place / 2) 0
      there (all_along (λ index. index < length network.edges) way edges line_is.there) in
      drive_good (length network.stops) _ (All-get_or (IsEdge (length network.stops)) network.edges _
      no_edge index served.network_is.edges)

  event_driven : (way : Direction) (repetition place : ℕ) → 1 ≤ repetition
      → repetition ≤ (line_at lines line).frequency
      → place < 2 * length (line_at lines line).edges
      → IsDriven (run_event network (line_at lines line) way repetition place)
  event_driven way repetition place some often inside = record {
    stop = stop_within network lines served line place h inside way;
    line = id_within (line_at lines line).id line_is.id_least line_is.id_greatest;
    repetition = (some, omega (arith, often, line_is.frequency));
    served = omega (arith, some, often);
    edge = edge_good way place inside;
  }

  runs_driven : (way : Direction) → All IsDriven (runs network (line_at lines line) way)
  runs_driven way =
      let at = line_at lines line in
      all_parts IsDriven (run network at way) (range_with_len 1 at.frequency)
      (all_numbers (λ repetition. All IsDriven (run network at way repetition)) 1 at.frequency
      (λ repetition low high.
      All-map IsDriven (run_event network at way repetition) (range_with_len 0 (2 * length at.edges))
      (all_numbers (λ place. IsDriven (run_event network at way repetition place)) 0
      (2 * length at.edges)
      (λ place least inside. event_driven way repetition place low (omega (arith, high))
      (omega (arith, inside))))))

  line_driven : All IsDriven (line_events network (line_at lines line))
  line_driven =
      All-append IsDriven (runs network (line_at lines line) direction.Forward)
      (runs network (line_at lines line) direction.Backward) (runs_driven direction.Forward)
      (runs_driven direction.Backward)

module _ (network : NetworkParts) (lines : List LineParts) (served : AreServed network lines) where
  all_driven : All IsDriven (flat_map (line_events network) lines)
  all_driven =
      all_parts IsDriven (line_events network) lines
      (All-from_get_or (λ line. All IsDriven (line_events network line)) lines no_line
      (λ line h. line_driven network lines served line h))

  with_a_number : (count n : ℕ) (event : RunEvent) → 1 ≤ n → n ≤ count → IsDriven event
      → IsNumbered count (with_id (n, event))
  with_a_number count n event low high is = grind arith

  -- all events are driven, and numbered up to their count
  pub events_numbered : All (IsNumbered (length (concept_events network lines)))
      (concept_events network lines)
  unfolding concept_events
  events_numbered =
      let events = flat_map (line_events network) lines in
      let size = numbered_size with_id events in
      all_numbered IsDriven (IsNumbered (length (concept_events network lines))) with_id events
      (λ n event low high is. with_a_number _ n event low (omega (arith, high, size)) is) all_driven

  -- the same of events that are those of the lines
  pub events_given : (events : List RunEvent) → events ≡ concept_events network lines
      → All (IsNumbered (length events)) events
  events_given events are =
      subst (λ some. All (IsNumbered (length some)) some) (sym are) events_numbered

-- events that are numbered are driven
pub numbered_driven : (count : ℕ) (events : List RunEvent) → All (IsNumbered count) events
    → All IsDriven events
numbered_driven count events all =
    All-weaker (IsNumbered count) IsDriven (λ event is. is.driven) events all
