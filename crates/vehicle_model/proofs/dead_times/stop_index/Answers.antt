use Rattle.plan_num.proofs.Common.{arith, ◌∙◌, unwrap_or, w64}
use Rattle.std.proofs.lemmas.Int.{to_z-of_z}
use Rattle.vehicle_model.proofs.dead_times.stop_index.Goals as goal

pub returns-clause-index : goal.returns-clause-index
returns-clause-index c =
    let own = to_z-of_z w64 c.from.result (record { sfits = c.from.type_inv }) ∙ c.from.ensures in
    grind (arith, unwrap_or)
