use Rattle.plan_num.proofs.Common.{arith, sym}
use Rattle.roll_out.specs.TimedRuns.{no_event}
use Rattle.roll_out.proofs.RunsInTurn.{run_begins, run_ends, run_goes_on, run_over}
use Rattle.roll_out.proofs.run.run_size.Goals as goal

pub loop-index-init : goal.loop-index-init
loop-index-init c = run_begins c.args.events.now no_event c.requires

pub returns-then-not-is_same_run-clause-first : goal.returns-then-not-is_same_run-clause-first
returns-then-not-is_same_run-clause-first c =
    run_ends c.args.events.now no_event c.loop-index.index (omega arith) c.loop-index-test.true
    c.loop-index.invariant (sym c.if-not-is_same_run.ensures)

pub loop-index-preserved : goal.loop-index-preserved
loop-index-preserved c =
    run_goes_on c.args.events.now no_event c.loop-index.index (omega arith) c.loop-index-test.true
    c.loop-index.invariant (sym c.if-not-is_same_run.ensures)

pub returns-clause-first : goal.returns-clause-first
returns-clause-first c =
    run_over c.args.events.now no_event c.loop-index.index (omega arith) c.loop-index.invariant
