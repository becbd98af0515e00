use Rattle.plan_num.proofs.Common.{ap, arith}
use Rattle.delay_trials.specs.declared.ends.ChangeEnd.{ChangeEnd}
use Rattle.delay_trials.proofs.Testing.{one_done}
use Rattle.delay_trials.proofs.open_changes.OpenChanges.test_end.Goals as goal

pub returns : goal.returns
returns c = let day = c.args.self.now in
    one_done day.changes day.times day.open_yet day.ends c.args.broken.now c.test.new.broken c.args.place _
    (λ e. ap (λ (end : ChangeEnd). end.change) (c.end_at-change.ensures.value e)) c.test.ensures
    (omega (arith, c.end_at-change.ensures.there, c.requires.marks))
