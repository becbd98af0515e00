use Rattle.plan_num.proofs.Common.{◌∷◌, ◌++◌, [], ap, sym, get_or, ◌∙◌, arith, get_or_default}
use Rattle.plan_num.proofs.Common.{get_or_from_slice_get}
use Rattle.ptn_network.specs.Loads.{no_load}
use Rattle.demand_load.specs.LoadTables.{load_row}
use Rattle.demand_load.proofs.LoadRows.{rows_more, rows_all}
use Rattle.demand_load.proofs.load_table.load_table.Goals as goal

pub loop-index-preserved : goal.loop-index-preserved
loop-index-preserved c =
    let edges = c.args.network.now.edges in
    let loads = c.args.loads.now in
    let i = c.loop-index.index in
    let load = get_or loads i no_load in
    c.in_ok-push_row.ensures ∙ ap (λ rows. rows ++ load_row c.edge.result load ∷ [])
    c.loop-index.invariant
    ∙ sym (rows_more edges loads i c.edge.result load (omega arith) (omega arith)
    (get_or_from_slice_get edges i c.edge.result c.edge.result c.edge.ensures.place)
    (get_or_default loads i load no_load (omega arith)))

pub returns : goal.returns
returns c = c.loop-index.invariant ∙ rows_all c.args.network.now.edges c.args.loads.now
    c.loop-index.index (omega arith) (omega arith)
