-- The lines of the rows so far are known, and there is the first row of each.
use Rattle.plan_num.proofs.Common.{◌≡◌, ℤ, map, take, contains, list_any, int_eq}
use Rattle.evaluators.specs.StatisticInputs.{line_row, lines_of}
use Rattle.evaluators.proofs.first_rows.first_rows.Given as goal

abbrev pub invariant-loop-i : goal.invariant-loop-i
invariant-loop-i l = record {
  seen : (id : ℤ) → contains int_eq l.seen id
      ≡ list_any (λ row. int_eq id row.line) (map (λ row. line_row row.cells) (take l.i l.table));
  rows : l.firsts.items ≡ lines_of (map (λ row. line_row row.cells) (take l.i l.table));
}
