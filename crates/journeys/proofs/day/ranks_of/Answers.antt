use Rattle.plan_num.proofs.Common.{◌∙◌, ◌++◌, [], ◌∷◌, arith, sym, map-range_with_len_more}
use Rattle.event_tables.proofs.Common.{forward_rank}
use Rattle.journeys.proofs.day.ranks_of.Goals as goal

pub loop-event-preserved : goal.loop-event-preserved
loop-event-preserved c =
    let event = c.loop-event.event in
    c.in_ok-push.ensures.items
    ∙ (λ i. c.loop-event.invariant i ++ c.forward_rank.ensures i ∷ [])
    ∙ sym (map-range_with_len_more (forward_rank c.args.events.now) 0 event event (omega arith))
