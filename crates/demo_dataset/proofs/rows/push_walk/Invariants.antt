use Rattle.plan_num.proofs.Common.{◌≡◌, ◌++◌, take, flat_map, enumerate_from}
use Rattle.demo_dataset.specs.Rows.{placed_row}
use Rattle.demo_dataset.proofs.rows.push_walk.Given as goal

-- the rows of the edges so far
abbrev pub invariant-loop-index : goal.invariant-loop-index
invariant-loop-index l = l.text.items ≡ l.initial.text.items
    ++ flat_map (placed_row l.line) (enumerate_from 1 (take l.index l.edges))
