-- The lines so far are passed over.
use Rattle.plan_num.proofs.Common.{◌+◌, ◌≤◌, option_copied}
use Rattle.text_fields.specs.Rows.{parts_left}
use Rattle.text_fields.specs.Told.{left_size}
use Rattle.text_fields.proofs.GivenFacts.{Passed}
use Rattle.text_fields.proofs.line.behind_comments.Given as goal

abbrev pub invariant-lines : goal.invariant-lines
invariant-lines l =
    record {
      passed : Passed (parts_left (option_copied l.fn.text)) (parts_left (option_copied l.left)) l.count;
      few : l.count + left_size (option_copied l.left) ≤ left_size (option_copied l.fn.text);
    }

abbrev pub decreases-lines : goal.decreases-lines
decreases-lines l = left_size (option_copied l.left)
