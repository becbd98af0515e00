-- The vehicles of the rows so far are known, and they are counted.
use Rattle.plan_num.proofs.Common.{◌≡◌, ◌≤◌, ℤ, length, pos, take, contains, list_any, int_eq}
use Rattle.evaluators.specs.FirstRows.{firsts}
use Rattle.evaluators.proofs.first_rows.vehicle_count.Given as goal

abbrev pub invariant-loop-row : goal.invariant-loop-row
invariant-loop-row l = record {
  seen : (id : ℤ) → contains int_eq l.seen id
      ≡ list_any (λ row. int_eq id (pos row.vehicle)) (take l.row-index l.rows);
  told : l.count ≡ length (firsts (λ row. pos row.vehicle) (take l.row-index l.rows));
  few : l.count ≤ l.row-index;
}
