use Rattle.plan_num.proofs.Common.{◌≡◌, ◌-◌, ◌++◌, map}
use Rattle.demo_dataset.specs.Grid.{one_to, column_line}
use Rattle.demo_dataset.proofs.line.push_column_lines.Given as goal

-- the lines of the columns so far are there
abbrev pub invariant-loop-column : goal.invariant-loop-column
invariant-loop-column l = l.lines.items
    ≡ l.initial.lines.items ++ map (column_line l.size) (one_to (l.column - 1))
