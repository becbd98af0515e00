use Rattle.plan_num.proofs.Common.{◌≡◌, ◌-◌, ◌++◌, flat_map}
use Rattle.demo_dataset.specs.Demo.{stops_in}
use Rattle.demo_dataset.specs.Grid.{one_to}
use Rattle.demo_dataset.proofs.rows.push_rows.Given as goal

-- the stops of the rows so far are there
abbrev pub invariant-loop-row : goal.invariant-loop-row
invariant-loop-row l = l.text.items
    ≡ l.initial.text.items ++ flat_map (stops_in l.size) (one_to (l.row - 1))
