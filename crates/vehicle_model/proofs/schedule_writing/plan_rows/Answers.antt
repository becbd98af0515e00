use Rattle.plan_num.proofs.Common.{◌≡◌, length, get_or, arith, rules}
use Rattle.vehicle_model.specs.Plans.{starts}
use Rattle.link_plans.proofs.Common.{count_most}
use Rattle.vehicle_model.proofs.VehicleRows.{starts_within, vehicles_more, vehicles_end}
use Rattle.vehicle_model.proofs.schedule_writing.plan_rows.Goals as goal

pub overflow_cast-index : goal.overflow_cast-index
overflow_cast-index c = grind (arith, count_most)

pub overflow_add-index : goal.overflow_add-index
overflow_add-index c = grind (arith, count_most)

pub push_vehicle-requires-clause-first : goal.push_vehicle-requires-clause-first
push_vehicle-requires-clause-first c =
    let size : c.len-index-end.result ≡ length c.in_ok-starts.starts.items = search rules in grind
    (arith, get_or, starts_within)

pub loop-index-preserved : goal.loop-index-preserved
loop-index-preserved c =
    let size : c.len-index-end.result ≡ length c.in_ok-starts.starts.items = search rules in grind
    (arith, vehicles_more)

pub returns-clause-rows : goal.returns-clause-rows
returns-clause-rows c =
    let size : c.len-index-end.result ≡ length c.in_ok-starts.starts.items = search rules in grind
    (arith, vehicles_end)
