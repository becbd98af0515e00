use Rattle.std.proofs.Common.{arith}
use Rattle.propagation.specs.declared.step.Activity.{Activity}
use Rattle.wait_choice.proofs.ListItems.{one_pushed}
use Rattle.wait_choice.proofs.ids.change_ids.Goals as goal

none : Activity
none = record { id = 0; step = record { from = 0; to = 0; lower = 0; extra = 0 } }

pub loop-change-preserved : goal.loop-change-preserved
loop-change-preserved c =
    one_pushed (λ (change : Activity). change.id) c.args.problem.now.changes c.loop-change.change none
    c.loop-change.ids.items c.push.new.self.items c.id_at.result
    (omega (arith, c.loop-change-test.true, c.change_count-count.ensures.count)) c.in_ok-push.ensures.items
    c.loop-change.invariant (c.id_at.ensures.id none)
