use Rattle.plan_num.proofs.Common.{arith}
use Rattle.line_walks.proofs.PoolTables.{table_kept, lines_are}
use Rattle.line_walks.proofs.pool.lines_of_table.Goals as goal

pub returns : goal.returns
returns g c =
    let edges = c.args.network.now.edges in
    let table = c.args.table.now in
    let ids = c.in_ok-ids.ids.keys in
    let read = c.in_ok-lines.ensures in
    record {
      network = c.edge_count-edges.ensures.network;
      lines = (
        table_kept c.args.kind edges table ids c.in_ok-ids.ensures.rising (omega arith) read.0,
        lines_are c.args.kind edges table ids c.in_ok-ids.ensures.rising c.in_ok-lines.lines.items
            c.in_ok-whole_lines.field-0.items read.1 c.in_ok-whole_lines.ensures,
      );
    }
