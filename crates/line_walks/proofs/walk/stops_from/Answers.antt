use Rattle.plan_num.proofs.Common.{sym, ◌∙◌, arith}
use Rattle.line_walks.proofs.Walks.{walk_goes_on, walk_stops, walk_done}
use Rattle.line_walks.proofs.walk.stops_from.Goals as goal

pub returns-in-None : goal.returns-in-None
returns-in-None c = walk_stops _ _ _ _ _ _ c.loop-edge-test.true
    (sym c.across.ensures ∙ c.in-None.is) c.loop-edge.invariant

pub loop-edge-preserved : goal.loop-edge-preserved
loop-edge-preserved c = rw c.in_ok-push-in-Some.ensures.items
    (walk_goes_on _ _ _ _ _ _ _ c.loop-edge-test.true
    (sym c.across.ensures ∙ c.in-Some.is) c.loop-edge.invariant)

pub returns : goal.returns
returns c = rw c.in_ok-push.ensures.items
    (walk_done c.args.edges.now c.loop-edge.edge-index c.loop-edge.stops.items c.loop-edge.end _
    (omega arith) c.loop-edge.invariant)
