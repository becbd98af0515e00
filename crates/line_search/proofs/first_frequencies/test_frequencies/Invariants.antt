-- No row so far has another frequency than its line's first row, and of each line with a row so far
-- that frequency is known.
use Rattle.plan_num.proofs.Common.{◌≡◌, ℤ, take, int_eq, get}
use Rattle.tables.proofs.Common.{SoundBefore}
use Rattle.line_cost_model.proofs.Common.{ProblemParts}
use Rattle.line_search.specs.PinnedConcepts.{first_of_line, pinned_input, rows_with}
use Rattle.line_search.specs.PoolPlaces.{plain_rows}
use Rattle.line_search.proofs.first_frequencies.test_frequencies.Given as goal

abbrev pub invariant-loop-row : goal.invariant-loop-row
invariant-loop-row l =
    record {
      sound : (problem : ProblemParts) → SoundBefore (pinned_input problem) l.table l.row;
      knows : (line : ℤ) → get int_eq l.first line
          ≡ first_of_line (rows_with (plain_rows (take l.row l.table)) line);
    }
