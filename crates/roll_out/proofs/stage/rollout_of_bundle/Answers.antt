use Rattle.plan_num.proofs.Common.{arith, ap, ◌∙◌, err_from_is_err_and}
use Rattle.event_tables.proofs.Common.{runs_of}
use Rattle.roll_out.proofs.RolloutCalls.{file_refused, rolled, rule_refused}
use Rattle.roll_out.proofs.SoundPlans.{plans_are, runs_sized, runs_there}
use Rattle.roll_out.proofs.TripsOfDay.{trips_are}
use Rattle.roll_out.proofs.stage.rollout_of_bundle.Goals as goal

pub returns-in_err-network : goal.returns-in_err-network
returns-in_err-network c =
    let p = err_from_is_err_and c.from_residual.result c.from_residual.ensures.1 in grind (
      arith,
      file_refused,
    )

pub returns-in_err-check_runs : goal.returns-in_err-check_runs
returns-in_err-check_runs c =
    let p = err_from_is_err_and c.from_residual-in_err-check_runs.result
    c.from_residual-in_err-check_runs.ensures.1 in grind (arith, rule_refused)

pub run_plans-requires-clause-runs : goal.run_plans-requires-clause-runs
run_plans-requires-clause-runs c =
    let are = c.deref-2.ensures.value ∙ c.in_ok-runs.ensures ∙ ap runs_of c.events.ensures.events in
    grind (arith, runs_sized)

pub run_plans-requires-clause-there : goal.run_plans-requires-clause-there
run_plans-requires-clause-there c =
    let are = c.deref-2.ensures.value ∙ c.in_ok-runs.ensures ∙ ap runs_of c.events.ensures.events in
    grind (arith, runs_there)

pub rolled_out-requires : goal.rolled_out-requires
rolled_out-requires c =
    let network = c.in_ok-network.network in grind (arith, plans_are)

pub returns : goal.returns
returns c =
    let network = c.in_ok-network.network in grind (arith, trips_are, rolled)
