use Rattle.plan_num.proofs.Common.{◌-◌, arith, get_or, map-set, get_or-map}
use Rattle.roll_out.proofs.event_ways.note_way.Goals as goal

pub returns-clause-noted : goal.returns-clause-noted
returns-clause-noted c =
    let rows = c.args.rows.now in grind (arith, map-set, get_or-map, get_or)
