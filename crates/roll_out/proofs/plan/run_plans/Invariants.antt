-- What holds before each turn.
use Rattle.plan_num.proofs.Common.{◌≡◌, map, take}
use Rattle.roll_out.specs.Plans.{plan_of}
use Rattle.roll_out.proofs.plan.run_plans.Given as goal

abbrev pub invariant-loop-run : goal.invariant-loop-run
invariant-loop-run l =
    l.plans.items ≡ map (plan_of l.network l.day) (take l.run-index l.runs)
