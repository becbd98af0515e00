-- The common columns in the words so far.
use Rattle.plan_num.proofs.Common.{◌≡◌, ◌++◌, ◌*◌, ◌&&◌, filter, range_with_len}
use Rattle.bit_rows.proofs.rows.BitRows.push_common.Given as goal
use Rattle.bit_rows.specs.Bits.{has}

abbrev pub invariant-loop-index : goal.invariant-loop-index
invariant-loop-index l =
    l.found.items ≡ l.fn.found.items ++ filter (λ column. has l.self l.row column
    && has l.other l.other_row column) (range_with_len 0 (64 * l.index))
