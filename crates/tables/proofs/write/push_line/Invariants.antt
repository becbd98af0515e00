-- The texts so far.
use Rattle.plan_num.proofs.Common.{◌≡◌, ◌++◌, take}
use Rattle.tables.specs.Writing.{cell_texts, joined}
use Rattle.tables.proofs.write.push_line.Given as goal

abbrev pub invariant-loop-column : goal.invariant-loop-column
invariant-loop-column l =
    l.bytes.items ≡ l.initial.bytes.items ++ joined (take l.column (cell_texts l.kinds l.cells))
