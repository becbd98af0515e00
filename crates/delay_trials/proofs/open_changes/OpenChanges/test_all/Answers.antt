use Rattle.plan_num.proofs.Common.{◌∙◌, arith}
use Rattle.delay_trials.proofs.Testing.{more_tested, same_size}
use Rattle.delay_trials.proofs.open_changes.OpenChanges.test_all.Goals as goal

pub loop-change-preserved : goal.loop-change-preserved
loop-change-preserved c = let day = c.args.self.now in record {
  size = same_size day.changes day.times day.open_yet c.loop-change.broken c.test.new.broken
      c.loop-change.change c.test.ensures (record { id = 0; step = record { from = 0; to = 0; lower = 0; extra = 0 } })
      ∙ c.loop-change.invariant.size;
  tested = more_tested day.changes day.times day.open_yet c.loop-change.broken c.test.new.broken c.loop-change.change
      c.test.ensures (omega (
        arith,
        c.loop-change-test.true,
        c.change_count-change-end.ensures,
        c.loop-change.invariant.size,
      ))
      c.loop-change.invariant.tested;
}
