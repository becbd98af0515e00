-- The rows of the first changes stand behind those that were there.
use Rattle.plan_num.proofs.Common.{◌≡◌, ◌++◌, map, take, All, zip}
use Rattle.wait_choice.specs.PrintedRows.{RowFits}
use Rattle.wait_choice.specs.WaitTexts.{choice_row}
use Rattle.wait_choice.proofs.print.push_choices.Given as goal

abbrev pub invariant-loop-change : goal.invariant-loop-change
invariant-loop-change l = record {
  told : l.rows.items ≡ l.fn.rows.items ++ take l.change
      (map (λ at. choice_row at.0 at.1) (zip l.kept l.problem.changes));
  fit : All RowFits l.rows.items;
}
