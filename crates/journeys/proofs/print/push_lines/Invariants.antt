-- The text so far and the lines of the events that are left are all of it.
use Rattle.plan_num.proofs.Common.{◌≡◌, ◌++◌, drop, flat_map}
use Rattle.journeys.specs.JourneyTexts.{event_line}
use Rattle.journeys.proofs.print.push_lines.Given as goal

abbrev pub invariant-loop-event : goal.invariant-loop-event
invariant-loop-event l =
    l.text.items ++ flat_map (event_line l.net l.word) (drop l.event-index l.event-items)
    ≡ l.initial.text.items ++ flat_map (event_line l.net l.word) l.event-items
