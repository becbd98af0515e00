use Rattle.plan_num.proofs.Common.{◌≤◌, ℕ, All, sym, subst, arith, All-push}
use Rattle.event_tables.specs.declared.disposed_time.DisposedTime.{DisposedTime}
use Rattle.event_tables.proofs.Common.{disposed_time}
use Rattle.delay_management.proofs.TableParts.{part_pushed}
use Rattle.delay_management.proofs.rows.times_of.Goals as goal
use Rattle.propagation.specs.declared.times.TheConstants.{LATEST}

abbrev time : DisposedTime → ℕ
time row = row.time

pub loop-row-preserved : goal.loop-row-preserved
loop-row-preserved c = record {
  told = part_pushed disposed_time time c.args.table.now c.loop-row.row c.loop-row.times.items c.push.new.self.items
      c.time_number.result
      (omega (arith, c.loop-row-test.true, c.len-row-end.ensures.len)) c.in_ok-push.ensures.items
      c.loop-row.invariant.told c.time_number.ensures.value;
  small = subst (All (λ time. time ≤ LATEST)) (sym c.in_ok-push.ensures.items)
      (All-push (λ time. time ≤ LATEST) _ _ c.loop-row.invariant.small c.time_number.ensures.small);
}
