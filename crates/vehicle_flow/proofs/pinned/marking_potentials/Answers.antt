use Rattle.vehicle_flow.proofs.FirstRules.{counted, counted_first}
use Rattle.vehicle_flow.proofs.PinnedGives.{fault_marks_not, unread_marks_not, valid_marks}
use Rattle.vehicle_flow.proofs.pinned.marking_potentials.Goals as goal

pub returns-in-Some-clause-marking : goal.returns-in-Some-clause-marking
returns-in-Some-clause-marking c =
    let read = c.in-Ok.ensures.read in
    let none = counted c.args.trips.now c.args.plan.now c.args.text.now c.len.result c.len.ensures.count read.0 in
    fault_marks_not c.args.trips.now c.args.plan.now c.args.text.now c.in-Ok.potentials none read.1
    c.in-Some._fault c.in-Some.ensures.first

pub returns-in-None-clause-marking : goal.returns-in-None-clause-marking
returns-in-None-clause-marking c =
    let read = c.in-Ok.ensures.read in
    let none = counted c.args.trips.now c.args.plan.now c.args.text.now c.len.result c.len.ensures.count read.0 in
    valid_marks c.args.trips.now c.args.plan.now c.args.text.now c.in-Ok.potentials none read.1
    c.in-None.ensures.first

pub returns-in-Err-Row-clause-marking : goal.returns-in-Err-Row-clause-marking
returns-in-Err-Row-clause-marking c =
    unread_marks_not c.args.trips.now c.args.plan.now c.args.text.now c.in-Err-Row.field-0-0
    (counted_first c.args.trips.now c.args.plan.now c.args.text.now c.len.result c.in-Err-Row.field-0-0
    c.len.ensures.count (rw c.in-Err-Row.field-0-is at c.in-Err-Row.ensures.read))
