use Rattle.plan_num.proofs.Common.{arith, ◌≡◌, ap, ◌∙◌, err_from_is_err_and}
use Rattle.tables.proofs.Common.{records, records_of, refused_cells, faults_of_table}
use Rattle.tables.proofs.Common.{UnlessFault-weaker, table_in_columns}
use Rattle.demand_load.specs.Demand.{demand_input, demand_loads}
use Rattle.demand_load.proofs.demand.read_demand.Goals as goal
use Rattle.plan_num.proofs.Lists.{unmapped}

pub returns-in_err-table : goal.returns-in_err-table
returns-in_err-table c =
    let p = err_from_is_err_and c.from_residual.result c.from_residual.ensures.1 in grind (
      arith,
      refused_cells,
    )

pub loads_of_table-requires : goal.loads_of_table-requires
loads_of_table-requires c =
    let cells = c.in_ok-table.ensures in grind (arith, table_in_columns, unmapped)

pub returns : goal.returns
returns c =
    let cells = c.in_ok-table.ensures in
    let network = c.args.network.now in
    let input = demand_input network in
    UnlessFault-weaker _ _ (λ loads. loads.items
    ≡ demand_loads network (records input c.in_ok-table.table))
    (λ loads. loads.items ≡ demand_loads network (records_of input c.args.text.now))
    c.loads_of_table.result
    (faults_of_table input c.args.text.now c.in_ok-table.table cells.0 cells.1)
    (λ loads is. is ∙ ap (λ table. demand_loads network (records input table)) cells.1)
    (rw c.for_walks.ensures at c.loads_of_table.ensures)
