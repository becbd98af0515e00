use Rattle.plan_num.proofs.Common.{◌&&◌, ◌∙◌, ℕ, Bool, sym}
use Rattle.connections.specs.Ends.{is_before_end}
use Rattle.connections.specs.Ways.{is_reached, way_at}
use Rattle.connections.proofs.FilteredRanges.{fails_more, passes_more}
use Rattle.connections.proofs.earliest.reached_before.Goals.{then-is_told+in_ok-push, else-is_told}
use Rattle.connections.proofs.earliest.reached_before.Goals as goal

pub loop-event-preserved : goal.loop-event-preserved
loop-event-preserved c =
    let test : ℕ → Bool = λ event. is_reached (way_at c.args.ways.now event)
    && is_before_end c.args.net.now c.args.end event in
    let event = c.loop-event.event in
    elim c.if-is_told.branch [
      | then-is_told+in_ok-push w ↦ rw w.reached-is
          (passes_more test event c.loop-event.reached.items
          w.push.new.self.items c.loop-event.invariant w.in_ok-push.ensures.items
          (sym c.is_told.ensures ∙ w.if-is_told.true))
      | else-is_told w ↦ rw w.reached-is (fails_more test event c.loop-event.reached.items
          c.loop-event.invariant (sym c.is_told.ensures ∙ w.if-is_told.false))
    ]
