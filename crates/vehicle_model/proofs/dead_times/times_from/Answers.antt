use Rattle.plan_num.proofs.Common.{nat_eq, get_or, eq-eqb, arith, list_any_at}
use Rattle.vehicle_model.proofs.dead_times.times_from.Goals as goal

pub returns-clause-times : goal.returns-clause-times
returns-clause-times c = λ k d there.
    let stop = get_or c.args.wanted.now k d in grind (arith, list_any_at, nat_eq, eq-eqb, get_or)
