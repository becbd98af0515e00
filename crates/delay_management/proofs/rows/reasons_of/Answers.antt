use Rattle.plan_num.proofs.Common.{arith}
use Rattle.propagation.specs.declared.reason.Reason.{Reason}
use Rattle.delay_management.specs.DispositionStage.{ReasonRow}
use Rattle.delay_management.specs.Judged.{reason_row}
use Rattle.delay_management.proofs.TableParts.{part_pushed}
use Rattle.delay_management.proofs.rows.reasons_of.Goals as goal

abbrev why : ReasonRow → Reason
why row = row.reason

pub loop-row-preserved : goal.loop-row-preserved
loop-row-preserved c =
    part_pushed reason_row why c.args.table.now c.loop-row.row c.loop-row.reasons.items c.push.new.self.items
    c.reason_in.result
    (omega (arith, c.loop-row-test.true, c.len-row-end.ensures.len)) c.in_ok-push.ensures.items
    c.loop-row.invariant c.reason_in.ensures
