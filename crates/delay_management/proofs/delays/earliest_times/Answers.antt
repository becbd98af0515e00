use Rattle.plan_num.proofs.Common.{◌≤◌, sym, subst, All, All-push}
use Rattle.delay_management.proofs.DelaysByPlace.{event_more}
use Rattle.propagation.proofs.Common.{moved}
use Rattle.delay_management.proofs.delays.earliest_times.Goals as goal

pub loop-index-preserved : goal.loop-index-preserved
loop-index-preserved c =
    let rows = c.args.rows.now in
    let events = c.args.events.now in
    let i = c.loop-index.index in
    record {
      told = moved _ _ _ _ _ _ _ (event_more rows c.in_ok-delays.delays.items i events _ c.index.result.now
          c.index.ensures c.requires.numbered c.in_ok-delays.ensures c.loop-index-test.true) c.in_ok-push.ensures.items
          c.delayed_time.ensures.value c.loop-index.invariant.told;
      soon = subst (All (λ time. time ≤ 8589934590)) (sym c.in_ok-push.ensures.items)
          (All-push (λ time. time ≤ 8589934590) _ _ c.loop-index.invariant.soon c.delayed_time.ensures.soon);
    }
