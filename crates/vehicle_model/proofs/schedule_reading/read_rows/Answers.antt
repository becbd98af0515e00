use Rattle.plan_num.proofs.Common.{◌<◌, ◌≤◌, length, arith, sym, ◌∙◌}
use Rattle.vehicle_model.proofs.BehindRows.{table_refused, table_can, table_taken, table_ends, table_plans}
use Rattle.vehicle_model.proofs.schedule_reading.read_rows.Goals as goal

pub returns-then-not-fits-clause-read : goal.returns-then-not-fits-clause-read
returns-then-not-fits-clause-read c =
    let within : c.loop-i.i < length c.args.table.now =
    omega (arith, c.loop-i-test.true, c.len-i-end.ensures.len) in
    table_refused c.args.trips.now c.args.table.now c.loop-i.i c.loop-i.reader c.loop-i.invariant
    within c.row_at-row.result c.row_after.result c.row_at-row.ensures c.row_after.ensures
    c.number.result c.number.ensures (sym c.fits.ensures ∙ c.if-not-fits.true)

pub take-requires-clause-link : goal.take-requires-clause-link
take-requires-clause-link c =
    let within : c.loop-i.i < length c.args.table.now =
    omega (arith, c.loop-i-test.true, c.len-i-end.ensures.len) in
    table_can c.args.trips.now c.args.table.now c.loop-i.i c.loop-i.reader c.loop-i.invariant
    within c.row_at-row.result c.row_after.result c.row_at-row.ensures c.row_after.ensures
    (sym c.fits.ensures ∙ c.if-not-fits.false)

pub loop-i-preserved : goal.loop-i-preserved
loop-i-preserved c =
    let within : c.loop-i.i < length c.args.table.now = grind arith in grind (arith, table_taken)

pub returns-clause-read : goal.returns-clause-read
returns-clause-read c =
    let past : length c.args.table.now ≤ c.loop-i.i =
    omega (arith, c.loop-i-test.false, c.len-i-end.ensures.len) in
    table_ends c.args.trips.now c.args.table.now c.loop-i.i c.loop-i.reader c.loop-i.invariant past
    c.finish.result c.finish.ensures

pub returns-clause-plan : goal.returns-clause-plan
returns-clause-plan c =
    let past : length c.args.table.now ≤ c.loop-i.i =
    omega (arith, c.loop-i-test.false, c.len-i-end.ensures.len) in
    table_plans c.args.trips.now c.args.table.now c.loop-i.i c.loop-i.reader c.loop-i.invariant past
    c.finish.result c.finish.ensures
