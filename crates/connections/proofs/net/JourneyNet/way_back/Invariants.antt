-- The events so far are met on the way back, and ever more links stand behind the last one.
use Rattle.plan_num.proofs.Common.{◌-◌, length}
use Rattle.connections.specs.Links.{links_behind}
use Rattle.connections.proofs.WayBack.{IsBackSoFar}
use Rattle.connections.proofs.net.JourneyNet.way_back.Given as goal

abbrev pub invariant-loop-event : goal.invariant-loop-event
invariant-loop-event l =
    IsBackSoFar l.self-inside.connections.items l.ways l.end l.event l.journey.items

abbrev pub decreases-loop-event : goal.decreases-loop-event
decreases-loop-event l =
    length l.self-inside.links.items - links_behind l.self-inside.links.items l.event
