use Rattle.plan_num.proofs.Common.{Some, None, refl}
use Rattle.config_keys.specs.declared.settings_file.Turn.TheVariants as turn
use Rattle.config_keys.proofs.Telling.{rows_begin, rows_more, rows_stop, rows_all}
use Rattle.config_keys.proofs.settings_file.Sections.take_rows.Goals as goal

pub rows-init : goal.rows-init
rows-init c = rows_begin c.args.rows.now c.args.self.now

pub rows-preserved : goal.rows-preserved
rows-preserved c = rows_more c.args.rows.now c.rows.rows c.next_row.new.self c.next_row.new.row
    c.args.self.now c.rows.self c.take_row.new.self (rw c.if-branch.true at c.in_ok-next_row.ensures)
    c.rows.invariant (rw c.in-Next.is at c.in_ok-take_row.ensures)

pub returns-in-Enough : goal.returns-in-Enough
returns-in-Enough c = rows_stop c.args.rows.now c.rows.rows c.next_row.new.self
    c.next_row.new.row c.args.self.now c.rows.self c.take_row.new.self turn.Enough None
    (rw c.if-branch.true at c.in_ok-next_row.ensures) c.rows.invariant
    (rw c.in-Enough.is at c.in_ok-take_row.ensures) (λ file rest. refl)

pub returns-in-Fault : goal.returns-in-Fault
returns-in-Fault c = rows_stop c.args.rows.now c.rows.rows c.next_row.new.self c.next_row.new.row
    c.args.self.now c.rows.self c.take_row.new.self (turn.Fault c.in-Fault.fault)
    (Some c.in-Fault.fault) (rw c.if-branch.true at c.in_ok-next_row.ensures) c.rows.invariant
    (rw c.in-Fault.is at c.in_ok-take_row.ensures) (λ file rest. refl)

pub returns : goal.returns
returns c = rows_all c.args.rows.now c.rows.rows c.args.self.now c.rows.self
    (rw c.if-branch.false at c.in_ok-next_row.ensures) c.rows.invariant
