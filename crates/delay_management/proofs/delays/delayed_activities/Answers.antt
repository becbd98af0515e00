use Rattle.plan_num.proofs.Common.{◌∙◌, ◌++◌, not, true, false, ap, sym}
use Rattle.delay_management.proofs.DelaysByPlace.{activity_left_out, activity_more}
use Rattle.propagation.proofs.Common.{moved}
use Rattle.delay_management.proofs.delays.delayed_activities.Goals.{then-is_change+in_ok-push}
use Rattle.delay_management.proofs.delays.delayed_activities.Goals.{else-is_change+in_ok-push-2}
use Rattle.delay_management.proofs.delays.delayed_activities.Goals as goal

pub loop-index-preserved : goal.loop-index-preserved
loop-index-preserved c =
    let rows = c.args.rows.now in
    let activities = c.args.activities.now in
    let delays = c.in_ok-delays.delays.items in
    let i = c.loop-index.index in
    elim c.if-is_change.branch [
      | then-is_change+in_ok-push w ↦
          let is = sym c.is_change.ensures ∙ w.if-is_change.true in
          record {
            rides = rw w.rides-is (ap (λ left. c.loop-index.rides.items ++ left)
                (sym (activity_left_out rows delays i false activities _ c.requires.numbered c.in_ok-delays.ensures
                c.loop-index-test.true (ap not is))) ∙ c.loop-index.invariant.rides);
            changes = rw w.changes-is (moved _ _ _ _ _ _ _
                (activity_more rows delays i true activities _ c.requires.numbered c.in_ok-delays.ensures
                c.loop-index-test.true c.index.result.now c.index.ensures is) w.in_ok-push.ensures.items
                c.delayed-delayed.ensures c.loop-index.invariant.changes);
          }
      | else-is_change+in_ok-push-2 w ↦
          let is = sym c.is_change.ensures ∙ w.if-is_change.false in
          record {
            rides = rw w.rides-is (moved _ _ _ _ _ _ _
                (activity_more rows delays i false activities _ c.requires.numbered c.in_ok-delays.ensures
                c.loop-index-test.true c.index.result.now c.index.ensures (ap not is)) w.in_ok-push-2.ensures.items
                c.delayed-delayed.ensures c.loop-index.invariant.rides);
            changes = rw w.changes-is (ap (λ left. c.loop-index.changes.items ++ left)
                (sym (activity_left_out rows delays i true activities _ c.requires.numbered c.in_ok-delays.ensures
                c.loop-index-test.true is)) ∙ c.loop-index.invariant.changes);
          }
    ]
