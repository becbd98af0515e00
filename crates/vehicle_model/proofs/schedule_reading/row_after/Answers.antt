use Rattle.plan_num.proofs.Common.{◌+◌, ◌<◌, ◌≤◌, length, option_map, arith, slice_get-get_or}
use Rattle.plan_num.proofs.Common.{slice_get_past}
use Rattle.vehicle_model.proofs.schedule_reading.row_after.Goals as goal

pub returns-then-i-count : goal.returns-then-i-count
returns-then-i-count c =
    let within : c.args.i + 1 < length c.args.table.now = grind arith in grind (
      arith,
      option_map,
      slice_get-get_or,
    )

pub returns-else-i-count : goal.returns-else-i-count
returns-else-i-count c =
    let past : length c.args.table.now ≤ c.args.i + 1 = grind arith in grind (
      arith,
      option_map,
      slice_get_past,
    )
