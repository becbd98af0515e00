use Rattle.plan_num.proofs.Common.{◌≡◌, ◌-◌, ◌++◌, flat_map}
use Rattle.demo_dataset.specs.Grid.{one_to, stop_id}
use Rattle.demo_dataset.specs.Rows.{stop_row}
use Rattle.demo_dataset.proofs.rows.push_stops.Given as goal

-- the stops of the columns so far
abbrev pub invariant-loop-column : goal.invariant-loop-column
invariant-loop-column l = l.text.items ≡ l.initial.text.items
    ++ flat_map (λ column. stop_row (stop_id l.size l.row column)) (one_to (l.column - 1))
