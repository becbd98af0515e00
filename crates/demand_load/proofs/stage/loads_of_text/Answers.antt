use Rattle.plan_num.proofs.Common.{arith, ◌≤◌, subst, sym, ◌∙◌, All, err_from_is_err_and}
use Rattle.tables.proofs.Common.{UnlessFault-weaker}
use Rattle.demand_load.proofs.LoadCalls.{given_faults, loads_given, demand_faults, loads_of_demand}
use Rattle.demand_load.proofs.SoundLoads.{demand_small}
use Rattle.demand_load.proofs.stage.loads_of_text.Goals as goal

pub returns-then-amount-ne0 : goal.returns-then-amount-ne0
returns-then-amount-ne0 c =
    let settings = c.args.settings.now in grind (
      arith,
      UnlessFault-weaker,
      given_faults,
      loads_given,
    )

pub returns-in_err-loads : goal.returns-in_err-loads
returns-in_err-loads c =
    let p = err_from_is_err_and c.from_residual.result c.from_residual.ensures.1 in grind (
      arith,
      demand_faults,
    )

pub bounds_of-requires-clause-loads : goal.bounds_of-requires-clause-loads
bounds_of-requires-clause-loads c =
    let read = c.in_ok-loads.ensures in
    subst (λ loads. All (λ load. load ≤ 100000000000000000) loads)
    (sym (c.deref.ensures.value ∙ read.1))
    (demand_small c.args.network.now c.args.text.now read.0)

pub returns : goal.returns
returns c =
    let settings = c.args.settings.now in grind (arith, demand_faults, loads_of_demand)
