-- What holds before each turn.
use Rattle.plan_num.proofs.Common.{◌≡◌, ◌++◌, ◌*◌, ◌≤◌, drop}
use Rattle.roll_out.specs.TimedRuns.{timed_from}
use Rattle.roll_out.proofs.plan.timed_events.Given as goal

abbrev pub invariant-loop-place : goal.invariant-loop-place
invariant-loop-place l = record {
  told : l.events.items ++ timed_from l.network l.minutes (drop l.place l.run)
      ≡ timed_from l.network 0 l.run;
  soon : l.minutes ≤ 100720 * l.place;
}
