use Rattle.plan_num.proofs.Common.{◌≡◌, [], Some, slice_get, take, subst, sym, ap, ◌∙◌, arith, w64}
use Rattle.plan_num.proofs.Common.{int_eq}
use Rattle.std.proofs.lemmas.Int.{to_z-of_z}
use Rattle.tables.proofs.Common.{broken_whys, records_by}
use Rattle.indexmap.specs.IndexMap.{insert_entry}
use Rattle.indexmap.proofs.CallerLemmas.{insert_entry-new}
use Rattle.ptn_network.specs.Inputs.{edge_row, edge_rules}
use Rattle.ptn_network.proofs.Rows.{id_there, own_entry, edges_more}
use Rattle.ptn_network.proofs.edges.EachEdgeRowFold6EdgeRowIndexMapI64Edge.take_row.Goals as goal

pub returns-in-Err-clause-first : goal.returns-in-Err-clause-first
returns-in-Err-clause-first c =
    let stops = c.args.self.now.stops.now.keys in
    let before = records_by edge_row (take c.args.index c.args.table.now) in
    let there = id_there stops before c.args.made.now.entries c.read-row.result.id
    c.requires.knows in
    sym (subst (λ row. slice_get (broken_whys (edge_rules stops) before row) 0 ≡ Some c.in-Err.why)
    c.read-row.ensures (c.in-Err.ensures before there))

pub returns-in_ok-insert-in-Ok-clause-first : goal.returns-in_ok-insert-in-Ok-clause-first
returns-in_ok-insert-in-Ok-clause-first c =
    let stops = c.args.self.now.stops.now.keys in
    let before = records_by edge_row (take c.args.index c.args.table.now) in
    let there = id_there stops before c.args.made.now.entries c.read-row.result.id
    c.requires.knows in
    sym (ap (λ whys. slice_get whys 0) (subst (λ row. broken_whys (edge_rules stops) before row
    ≡ []) c.read-row.ensures (c.in-Ok.ensures before there).0))

pub returns-in_ok-insert-in-Ok-clause-knows : goal.returns-in_ok-insert-in-Ok-clause-knows
returns-in_ok-insert-in-Ok-clause-knows c = λ _.
    let stops = c.args.self.now.stops.now.keys in
    let before = records_by edge_row (take c.args.index c.args.table.now) in
    let row = c.read-row.result in
    let entries = c.args.made.now.entries in
    let made = c.in-Ok.ensures before (id_there stops before entries row.id c.requires.knows) in
    let none = own_entry stops before row entries c.requires.knows made.0 in
    let own = to_z-of_z w64 row.id (record { sfits = omega (arith, c.read-row.type_inv) }) in
    edges_more stops before row _ c.in-Ok.edge entries c.insert.new.self.entries
    c.read-row.ensures made.1 c.requires.knows
    (c.in_ok-insert-in-Ok.ensures.entries
    ∙ ap (λ id. insert_entry int_eq entries id c.in-Ok.edge) own
    ∙ insert_entry-new int_eq c.args.made.now row.id c.in-Ok.edge none)
