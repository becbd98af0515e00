-- The lines that are left are those that were left at first.
use Rattle.plan_num.proofs.Common.{◌≡◌, filter, option_copied}
use Rattle.text_fields.specs.Rows.{has_byte, parts_left}
use Rattle.text_fields.specs.Told.{left_size}
use Rattle.text_fields.proofs.text_lines.TextLines.next.Given as goal

abbrev pub invariant-lines : goal.invariant-lines
invariant-lines l = filter has_byte (parts_left (option_copied l.self-inside.left)) ≡ l.fn.self

abbrev pub decreases-lines : goal.decreases-lines
decreases-lines l = left_size (option_copied l.self-inside.left)
