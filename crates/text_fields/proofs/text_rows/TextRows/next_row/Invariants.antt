-- The rows that are left are those that were left at first.
use Rattle.plan_num.proofs.Common.{◌≡◌, ◌+◌, ◌<◌, ◌^◌, length, map}
use Rattle.text_fields.specs.Told.{row_told, told_left}
use Rattle.text_fields.proofs.text_rows.TextRows.next_row.Given as goal

abbrev pub invariant-lines : goal.invariant-lines
invariant-lines l =
    record {
      few : l.self-inside.number + length l.self-inside.lines < 2 ^ 64;
      same : map row_told (told_left l.self-inside.number l.self-inside.lines) ≡ l.fn.self;
    }

abbrev pub decreases-lines : goal.decreases-lines
decreases-lines l = length l.self-inside.lines
