-- Inner words: rows that can be printed.
use Rattle.std.specs.Prelude.{◌≤◌, ⊤}
use Rattle.wait_choice.specs.declared.row.WaitRow.{WaitRow}
use Rattle.wait_choice.specs.declared.row.WaitRow.TheVariants as row
use Rattle.waiting_decisions.specs.declared.cost.TheConstants.{MOST_COST}

-- a row that fits its columns
abbrev pub RowFits : WaitRow → Type 0
RowFits (row.Cost cost) = cost ≤ MOST_COST
RowFits (row.Keep id) = id ≤ 1000000000
RowFits (row.Drop id) = id ≤ 1000000000
RowFits (row.Split id) = id ≤ 1000000000
RowFits row.Leaf = ⊤
RowFits row.Stray = ⊥
