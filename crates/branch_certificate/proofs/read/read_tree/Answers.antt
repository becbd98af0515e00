use Rattle.plan_num.proofs.Common.{arith, refl, err_from_is_err_and}
use Rattle.tables.proofs.Common.{tree_columns, table_of}
use Rattle.branch_certificate.proofs.ReadLines.{one_of_both}
use Rattle.branch_certificate.proofs.ReadTexts.{IsRead, cells_refuse, rows_refuse, due_refuses}
use Rattle.branch_certificate.proofs.ReadTexts.{tree_read}
use Rattle.branch_certificate.proofs.read.read_tree.Goals as goal

pub returns-in_err-so_far-clause-read : goal.returns-in_err-so_far-clause-read
returns-in_err-so_far-clause-read c = grind (
  arith,
  err_from_is_err_and,
  one_of_both,
  cells_refuse,
  rows_refuse,
)

pub returns-then-is_due-clause-read : goal.returns-then-is_due-clause-read
returns-then-is_due-clause-read c =
    let told = c.in_ok-so_far.ensures in grind (arith, due_refuses, told)

told : (c : goal.After-drop-ids-inside-3)
    → IsRead c.args.problem.now c.args.bytes.now c.in_ok-into_tree.field-0
told c =
    let rows = c.in_ok-so_far.ensures in
    tree_read c.args.problem.now c.args.bytes.now (table_of tree_columns c.args.bytes.now) rows.0
    refl c.in_ok-ids.ids c.in_ok-ids.ensures.ids rows.1 c.in_ok-so_far.so_far rows.2 c.is_due.result
    c.is_due.ensures c.if-is_due.false c.in_ok-into_tree.field-0 c.in_ok-into_tree.ensures

pub returns-clause-read : goal.returns-clause-read
returns-clause-read c = ((told c).0, (told c).1)

pub returns-clause-names : goal.returns-clause-names
returns-clause-names c = (told c).2

pub returns-clause-written : goal.returns-clause-written
returns-clause-written c = (told c).3
