-- The lines so far.
use Rattle.plan_num.proofs.Common.{◌≡◌, ◌++◌, ◌∷◌, take, flat_map}
use Rattle.tables.specs.Writing.{line_text}
use Rattle.tables.proofs.write.write_table.Given as goal

abbrev pub invariant-loop-row : goal.invariant-loop-row
invariant-loop-row g l = l.bytes.items ≡ l.fn.header ++ 10 ∷ flat_map (line_text l.kinds) (take l.row l.table)
