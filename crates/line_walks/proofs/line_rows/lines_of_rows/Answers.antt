use Rattle.plan_num.proofs.Common.{◌≡◌, ◌+◌, ◌&&◌, ◌++◌, ◌∷◌, cond, true, to_z, of_z, [], Some, ap}
use Rattle.plan_num.proofs.Common.{subst, sym, ◌∙◌, arith, w64, length, map, take, set, get_or}
use Rattle.plan_num.proofs.Common.{position, slice_get, pos, list_any, contains, int_eq, length-map}
use Rattle.plan_num.proofs.Common.{position-Some}
use Rattle.std.proofs.lemmas.Int.{to_z-of_z}
use Rattle.tables.specs.declared.refusal.Refusal.TheVariants as refusal
use Rattle.tables.proofs.Common.{records, broken_whys, row_met, row_refused, rows_met, records_all}
use Rattle.tables.proofs.Common.{records_more}
use Rattle.line_walks.specs.Pools.{file_of, line_input, rows_of}
use Rattle.line_walks.specs.LinesSoFar.{line_so_far, with_edge, no_line}
use Rattle.line_walks.proofs.RowsOfLines.{line_listed, line_at, new_told, lines_more, pair_noted}
use Rattle.ptn_network.proofs.EdgeIds.{stands_within, edge_at}
use Rattle.line_walks.proofs.line_rows.lines_of_rows.Goals as goal

pub place_of-place-requires : goal.place_of-place-requires
place_of-place-requires g c =
    let row = c.read-row.result in grind (arith, to_z-of_z, line_listed)

pub index-requires : goal.index-requires
index-requires g c =
    let ids = c.args.ids.now.keys in
    let within = (position-Some _ ids c.place_of-place.result (pos 0) c.place_of-place.ensures).0 in
    let size : length c.loop-i.lines.items ≡ length ids = ap length c.loop-i.invariant.lines ∙ length-map ids _ in
    omega (arith, c.loop-i.lines.ok.0)

pub edge-requires : goal.edge-requires
edge-requires g c =
    let row = c.read-row.result in
    let edges = c.args.network.now.edges in
    let ids = c.args.ids.now.keys in
    let before = records (line_input c.args.kind edges) (take c.loop-i.i c.args.table.now) in
    let own = to_z-of_z w64 row.line (record { sfits = omega (arith, c.read-row.type_inv) }) in
    let same = to_z-of_z w64 row.edge (record { sfits = omega (arith, c.read-row.type_inv) }) in
    let at = ap (λ id. position (int_eq id) ids) (sym own) ∙ c.place_of-place.ensures in
    let told = c.index.ensures
    ∙ line_at ids c.loop-i.lines.items
    (line_so_far edges before) row.line c.place_of-place.result c.index.result.now
    c.loop-i.invariant.lines at in
    let new = new_told before row _ _
    (λ id edge. contains (λ x y. int_eq x.0 y.0 && int_eq x.1 y.1) c.loop-i.pairs (id, edge))
    c.in_ok-is_new.is_new own same c.loop-i.invariant.pairs c.in_ok-is_new.ensures.added in
    stands_within edges row.edge c.in-Ok.index (c.in-Ok.ensures before told new).1

pub add_at-requires : goal.add_at-requires
add_at-requires g c =
    let ids = c.args.ids.now.keys in
    let within = (position-Some _ ids c.place_of-place.result (pos 0) c.place_of-place.ensures).0 in
    let size : length c.loop-i.lines.items ≡ length ids = ap length c.loop-i.invariant.lines ∙ length-map ids _ in
    omega (arith, c.loop-i.lines.ok.0)

pub returns-in-Err : goal.returns-in-Err
returns-in-Err g c =
    let row = c.read-row.result in
    let table = c.args.table.now in
    let i = c.loop-i.i in
    let edges = c.args.network.now.edges in
    let ids = c.args.ids.now.keys in
    let input = line_input c.args.kind edges in
    let before = records input (take i table) in
    let own = to_z-of_z w64 row.line (record { sfits = omega (arith, c.read-row.type_inv) }) in
    let same = to_z-of_z w64 row.edge (record { sfits = omega (arith, c.read-row.type_inv) }) in
    let at = ap (λ id. position (int_eq id) ids) (sym own) ∙ c.place_of-place.ensures in
    let told = c.index.ensures
    ∙ line_at ids c.loop-i.lines.items
    (line_so_far edges before) row.line c.place_of-place.result c.index.result.now
    c.loop-i.invariant.lines at in
    let new = new_told before row _ _
    (λ id edge. contains (λ x y. int_eq x.0 y.0 && int_eq x.1 y.1) c.loop-i.pairs (id, edge))
    c.in_ok-is_new.is_new own same c.loop-i.invariant.pairs c.in_ok-is_new.ensures.added in
    let broken = c.in-Err.ensures before told new in
    row_refused input table i c.in-Err.why (omega arith)
    (subst (λ some. slice_get (broken_whys input.row_rules before some) 0 ≡ Some c.in-Err.why)
    c.read-row.ensures broken) c.loop-i.invariant.sound
    ∙ ap (λ number. Some (refusal.BadRow (file_of c.args.kind) number c.in-Err.why)) (sym c.number.ensures)
    ∙ ap (λ file. Some (refusal.BadRow file c.number.result c.in-Err.why)) (sym c.id.ensures)

pub loop-i-preserved : goal.loop-i-preserved
loop-i-preserved g c =
    let row = c.read-row.result in
    let table = c.args.table.now in
    let i = c.loop-i.i in
    let edges = c.args.network.now.edges in
    let ids = c.args.ids.now.keys in
    let input = line_input c.args.kind edges in
    let before = records input (take i table) in
    let own = to_z-of_z w64 row.line (record { sfits = omega (arith, c.read-row.type_inv) }) in
    let same = to_z-of_z w64 row.edge (record { sfits = omega (arith, c.read-row.type_inv) }) in
    let at = ap (λ id. position (int_eq id) ids) (sym own) ∙ c.place_of-place.ensures in
    let told = c.index.ensures
    ∙ line_at ids c.loop-i.lines.items
    (line_so_far edges before) row.line c.place_of-place.result c.index.result.now
    c.loop-i.invariant.lines at in
    let new = new_told before row _ _
    (λ id edge. contains (λ x y. int_eq x.0 y.0 && int_eq x.1 y.1) c.loop-i.pairs (id, edge))
    c.in_ok-is_new.is_new own same c.loop-i.invariant.pairs c.in_ok-is_new.ensures.added in
    let met = c.in-Ok.ensures before told new in
    let edge = edge_at edges row.edge c.in-Ok.index c.edge.result met.1 c.edge.ensures.place in
    let served = to_z-of_z w64 row.frequency (record { sfits = omega (arith, c.read-row.type_inv) }) in
    let old = c.loop-i.lines.items in
    let place = c.place_of-place.result in
    let put = c.in_ok-add_at-in-Ok.ensures
    ∙ ap (λ frequency. set old place
    (with_edge (get_or old place (no_line (pos 0))) c.in-Ok.index c.edge.result frequency))
    served in
    let more : before ++ row ∷ []
    ≡ records input (take (i + 1) table) = ap (λ some. before ++ some ∷ []) c.read-row.ensures
    ∙ sym (records_more input table i (omega arith)) in
    record {
      sound = row_met input table i (omega arith)
          (subst (λ some. broken_whys input.row_rules before some ≡ []) c.read-row.ensures met.0)
          c.loop-i.invariant.sound;
      lines = lines_more edges before row ids c.place_of-place.result c.loop-i.lines.items
          c.add_at.new.lines.items c.in-Ok.index c.edge.result c.requires.distinct at
          c.loop-i.invariant.lines met.1 edge put
          ∙ ap (λ rows. map (line_so_far edges rows) ids) more;
      pairs = λ id q.
          let old = contains (λ x y. int_eq x.0 y.0 && int_eq x.1 y.1) c.loop-i.pairs (id, q) in
          pair_noted before row id q old _
          (c.in_ok-is_new.ensures.updates.0 (id, q)
          ∙ ap (λ some. cond (int_eq some id && int_eq (to_z w64 (of_z w64 row.edge)) q) true old)
          own ∙ ap (λ some. cond (int_eq row.line id && int_eq some q) true old) same)
          (c.loop-i.invariant.pairs id q)
          ∙ ap (λ rows. list_any (λ other. int_eq q other.edge) (rows_of id rows)) more;
    }

pub returns : goal.returns
returns g c =
    let table = c.args.table.now in
    let i = c.loop-i.i in
    let edges = c.args.network.now.edges in
    let input = line_input c.args.kind edges in (
      rows_met input table i (omega arith) c.loop-i.invariant.sound,
      c.loop-i.invariant.lines
          ∙ ap (λ rows. map (line_so_far edges rows) c.args.ids.now.keys)
          (records_all input table i (omega arith)),
    )
