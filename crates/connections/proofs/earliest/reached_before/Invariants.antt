-- The set holds those of the events so far.
use Rattle.plan_num.proofs.Common.{◌≡◌, ◌&&◌, filter, range_with_len}
use Rattle.connections.specs.Ends.{is_before_end}
use Rattle.connections.specs.Ways.{is_reached, way_at}
use Rattle.connections.proofs.earliest.reached_before.Given as goal

abbrev pub invariant-loop-event : goal.invariant-loop-event
invariant-loop-event l =
    l.reached.items
    ≡ filter (λ event. is_reached (way_at l.ways event) && is_before_end l.net l.end event)
    (range_with_len 0 l.event)
