use Rattle.vehicle_flow.proofs.FirstRules.{counted, counted_first, judged_fault, judged_potentials, no_potentials}
use Rattle.vehicle_flow.proofs.judge.potentials_fault.Goals as goal

pub returns-in-Some-clause-first : goal.returns-in-Some-clause-first
returns-in-Some-clause-first c =
    let read = c.in-Ok.ensures.read in
    let none = counted c.args.trips.now c.args.plan.now c.args.text.now c.len.result c.len.ensures.count read.0 in
    judged_fault c.args.trips.now c.args.plan.now c.args.text.now c.in-Ok.potentials none read.1
    c.in-Some.fault c.of_potentials.result c.in-Some.ensures.first c.of_potentials.ensures

pub returns-in-Ok-clause-first : goal.returns-in-Ok-clause-first
returns-in-Ok-clause-first c =
    let read = c.in-Ok.ensures.read in
    let none = counted c.args.trips.now c.args.plan.now c.args.text.now c.len.result c.len.ensures.count read.0 in
    judged_potentials c.args.trips.now c.args.plan.now c.args.text.now c.in-Ok.potentials none read.1
    _ c.in-None.ensures.first

pub returns-in-Err-Row-clause-first : goal.returns-in-Err-Row-clause-first
returns-in-Err-Row-clause-first c =
    no_potentials c.args.trips.now c.args.plan.now c.args.text.now c.in-Err-Row.field-0-0
    (counted_first c.args.trips.now c.args.plan.now c.args.text.now c.len.result c.in-Err-Row.field-0-0
    c.len.ensures.count (rw c.in-Err-Row.field-0-is at c.in-Err-Row.ensures.read))
