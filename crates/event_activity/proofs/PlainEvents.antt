-- The events of lines are those of all their runs and no others.
use Rattle.std.proofs.Common.{ℕ, pos, ◌+◌, ◌*◌, ◌/◌, ◌<◌, ◌≤◌, arith, All, Contains, List, length}
use Rattle.std.proofs.Common.{map, unsigned_abs, refl, ap, subst, sym, ◌∙◌}
use Rattle.std.specs.List.{flat_map, range_with_len, enumerate_from}
use Rattle.std.proofs.lemmas.List.Elements.{All-append, All-map, All-weaker, All-contains, All-contains_itself, All-get_or, Contains-append_left, Contains-append_right, Contains-get_or}
use Rattle.event_tables.specs.declared.direction.Direction.{Direction}
use Rattle.event_tables.specs.declared.direction.Direction.TheVariants as direction
use Rattle.line_walks.specs.Pools.{LineParts, IsLine}
use Rattle.walks.specs.Networks.{NetworkParts}
use Rattle.plan_num.proofs.Members.{Contains-flat_map as contains_part, Contains-map as contains_map, All-flat_map as all_parts}
use Rattle.event_activity.specs.declared.run_event.RunEvent.{RunEvent}
use Rattle.event_activity.specs.EventsOfRuns.{IsEventOf, AreEventsOf}
use Rattle.event_activity.specs.Runs.{AreServed, along, no_edge, run_event, run, runs, line_events, with_id, concept_events}
use Rattle.event_activity.proofs.Along.{all_along, length-along, stops_inside}
use Rattle.event_activity.proofs.LineEvents.{numbered_size}
use Rattle.plan_num.proofs.Members.{Contains-range as contains_range}
use Rattle.plan_num.proofs.Members.{contains_numbered}
use Rattle.plan_num.proofs.Numbered.{all_numbers, all_numbered, numbers_are}

module _ (network : NetworkParts) (lines : List LineParts) where
  abbrev IsOne : RunEvent → Type 0
  IsOne event = IsEventOf network lines event

  module _ (line : LineParts) (there : Contains lines line) where
    runs_are : (way : Direction) → All IsOne (runs network line way)
    runs_are way =
        all_parts IsOne (run network line way) (range_with_len 1 line.frequency)
        (all_numbers (λ repetition. All IsOne (run network line way repetition)) 1 line.frequency
        (λ repetition low high.
        All-map IsOne (run_event network line way repetition)
        (range_with_len 0 (2 * length line.edges))
        (all_numbers (λ place. IsOne (run_event network line way repetition place)) 0
        (2 * length line.edges) (λ place least inside. record {
          line = line;
          direction = way;
          repetition = repetition;
          place = place;
          there = there;
          first = low;
          often = omega (arith, high);
          within = omega (arith, inside);
          same = refl;
        }))))

    line_are : All IsOne (line_events network line)
    line_are =
        All-append IsOne (runs network line direction.Forward)
        (runs network line direction.Backward)
        (runs_are direction.Forward) (runs_are direction.Backward)

  all_are : All IsOne (flat_map (line_events network) lines)
  all_are =
      all_parts IsOne (line_events network) lines
      (All-weaker (Contains lines) (λ line. All IsOne (line_events network line)) line_are lines
      (All-contains_itself lines))

  numbered_one : (n : ℕ) (event : RunEvent) → IsOne event → IsOne (with_id (n, event))
  numbered_one n event is = grind arith

  runs_have : (line : LineParts) (way : Direction) (repetition place : ℕ) → 1 ≤ repetition
      → repetition ≤ line.frequency → place < 2 * length line.edges
      → Contains (runs network line way) (run_event network line way repetition place)
  runs_have line way repetition place first often within =
      contains_part (run network line way) (range_with_len 1 line.frequency) repetition
      (run_event network line way repetition place)
      (contains_range 1 line.frequency repetition first (omega (arith, often)))
      (contains_map (run_event network line way repetition)
      (range_with_len 0 (2 * length line.edges)) place
      (contains_range 0 (2 * length line.edges) place (omega arith) (omega (arith, within))))

  line_has : (line : LineParts) (way : Direction) (event : RunEvent)
      → Contains (runs network line way) event → Contains (line_events network line) event
  line_has line direction.Forward event there = grind (arith, Contains-append_left)
  line_has line direction.Backward event there = grind (arith, Contains-append_right)

  -- the events of the lines are those
  pub events_are : AreEventsOf network lines (concept_events network lines)
  unfolding concept_events
  events_are =
      let events = flat_map (line_events network) lines in
      record {
        numbered = numbers_are (λ (event : RunEvent). event.row.id) with_id
            (λ n event. refl) 1 events
            ∙ ap (range_with_len 1) (sym (numbered_size with_id events));
        sound = all_numbered IsOne IsOne with_id events
            (λ n event low high is. numbered_one n event is) all_are;
        whole = λ event is.
            let bare = run_event network is.line is.direction is.repetition is.place in
            let found = contains_numbered with_id 1 events bare
            (contains_part (line_events network) lines is.line bare is.there
            (line_has is.line is.direction bare
            (runs_have is.line is.direction is.repetition is.place
            is.first is.often is.within))) in (
              found.0,
              subst (Contains (map with_id (enumerate_from 1 events)))
                  (sym (ap (λ (some : RunEvent). with_id (found.0, some)) is.same)) found.1,
            );
      }

  module _ (served : AreServed network lines) (event : RunEvent)
      (is : IsEventOf network lines event) where
    line_is : IsLine network.edges is.line
    line_is = All-contains (IsLine network.edges) lines is.line served.lines_are.each is.there

    -- an event belongs to an edge of the network
    pub edge_there : Contains network.edges event.edge
    edge_there =
        let edges = is.line.edges in
        let inside : is.place / 2 < length (along is.direction edges) =
        omega (arith, is.within, length-along is.direction edges) in
        let index = All-get_or (λ index. index < length network.edges) (along is.direction edges)
        (is.place / 2) 0 inside
        (all_along (λ index. index < length network.edges) is.direction edges line_is.there) in
        subst (Contains network.edges) (ap (λ (some : RunEvent). some.edge) (sym is.same))
        (Contains-get_or network.edges _ no_edge index)

    -- and is at one of its stops
    pub stop_there : Contains (map unsigned_abs network.stops) event.row.stop
    stop_there =
        let stops = is.line.stops in
        let half : (is.place + 1) / 2 ≤ length is.line.edges = omega (arith, is.within) in
        let inside : (is.place + 1) / 2 < length (along is.direction stops) =
        omega (arith, half, line_is.stops, length-along is.direction stops) in
        let index = All-get_or (λ stop. stop < length network.stops) (along is.direction stops)
        ((is.place + 1) / 2) 0 inside
        (all_along (λ stop. stop < length network.stops) is.direction stops
        (stops_inside network is.line served.network_is line_is)) in
        subst (Contains (map unsigned_abs network.stops))
        (ap (λ (some : RunEvent). some.row.stop) (sym is.same))
        (contains_map unsigned_abs network.stops _ (Contains-get_or network.stops _ (pos 0) index))
