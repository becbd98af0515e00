use Rattle.plan_num.proofs.Common.{arith, ◌<◌, length, subst, sym}
use Rattle.vehicle_model.specs.DeadTables.{DeadTable, IsDeadTable}
use Rattle.vehicle_model.proofs.DeadLookups.{found, told, times_size}
use Rattle.vehicle_model.proofs.dead_times.DeadTimes.minutes.Goals as goal

pub at-requires : goal.at-requires
at-requires c =
    let table = c.requires.table in grind (arith, found, times_size)

pub returns-in-Some-clause-value : goal.returns-in-Some-clause-value
returns-in-Some-clause-value c = λ network trips table.
    let view : DeadTable = record {
      starts = c.self.inside.starts.items;
      ends = c.self.inside.ends.items;
      times = c.self.inside.times.items;
    } in
    let is = found network trips view c.args.i c.args.j
    (subst (IsDeadTable network trips) (sym c.self.view_is) table)
    (subst (λ (t : DeadTable). c.args.i < length t.ends) (sym c.self.view_is) c.requires.from)
    (subst (λ (t : DeadTable). c.args.j < length t.starts) (sym c.self.view_is) c.requires.to)
    c.index-from.result.now c.index-to.result.now c.index-from.ensures c.index-to.ensures
    c.index.result.now c.index.ensures c.in-Some.reach c.in-Some.is in
    told network trips c.args.i c.args.j c.index-from.result.now c.index-to.result.now
    c.in-Some.reach c.at.result c.minutes_of.result is c.at.ensures.place c.minutes_of.ensures.value
