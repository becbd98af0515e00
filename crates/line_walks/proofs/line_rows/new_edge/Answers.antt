use Rattle.plan_num.proofs.Common.{◌∙◌, ap, sym, position, map, w64, arith, int_eq, not-true}
use Rattle.plan_num.proofs.Common.{not-false}
use Rattle.std.proofs.lemmas.Int.{to_z-of_z}
use Rattle.line_walks.proofs.RowsOfLines.{unknown, order_gap, repeated_edge, broken_line, frequency_differs, row_fits, next_told, walk_told, frequency_told}
use Rattle.ptn_network.proofs.EdgeIds.{edge_at, stands_at, is_known, none_with}
use Rattle.line_walks.proofs.line_rows.new_edge.Goals as goal

pub returns-in_default : goal.returns-in_default
returns-in_default c = λ before told new.
    let edges = c.args.network.now.edges in
    let row = c.args.row.now in
    let own = ap (λ id. position (int_eq id) (map (λ edge. edge.id) edges))
    (to_z-of_z w64 row.edge (record { sfits = omega arith })) in
    unknown edges before row (none_with edges row.edge (sym own ∙ sym c.edge_index.ensures ∙ c.in_default.is))

pub returns-then-not-is_next : goal.returns-then-not-is_next
returns-then-not-is_next c = λ before told new.
    let edges = c.args.network.now.edges in
    let row = c.args.row.now in
    let own = ap (λ id. position (int_eq id) (map (λ edge. edge.id) edges))
    (to_z-of_z w64 row.edge (record { sfits = omega arith })) in
    let stands = stands_at edges row.edge c.in-Some.index (sym own ∙ sym c.edge_index.ensures ∙ c.in-Some.is) in
    let next = next_told edges before row c.args.line.now _ c.len.result c.is_next.result _ told
    (to_z-of_z w64 row.order (record { sfits = omega arith })) c.len.ensures c.is_next.ensures
    c.if-not-is_next.true in
    order_gap edges before row (is_known edges row.edge c.in-Some.index stands) next

pub returns-then-not-is_new : goal.returns-then-not-is_new
returns-then-not-is_new c = λ before told new.
    let edges = c.args.network.now.edges in
    let row = c.args.row.now in
    let own = ap (λ id. position (int_eq id) (map (λ edge. edge.id) edges))
    (to_z-of_z w64 row.edge (record { sfits = omega arith })) in
    let stands = stands_at edges row.edge c.in-Some.index (sym own ∙ sym c.edge_index.ensures ∙ c.in-Some.is) in
    let next = next_told edges before row c.args.line.now _ c.len.result c.is_next.result _ told
    (to_z-of_z w64 row.order (record { sfits = omega arith })) c.len.ensures c.is_next.ensures
    c.if-not-is_next.false in
    repeated_edge edges before row (is_known edges row.edge c.in-Some.index stands) next
    (not-false _ (sym new ∙ c.if-not-is_new.true))

pub returns-then-not-is_walk : goal.returns-then-not-is_walk
returns-then-not-is_walk c = λ before told new.
    let edges = c.args.network.now.edges in
    let row = c.args.row.now in
    let own = ap (λ id. position (int_eq id) (map (λ edge. edge.id) edges))
    (to_z-of_z w64 row.edge (record { sfits = omega arith })) in
    let stands = stands_at edges row.edge c.in-Some.index (sym own ∙ sym c.edge_index.ensures ∙ c.in-Some.is) in
    let next = next_told edges before row c.args.line.now _ c.len.result c.is_next.result _ told
    (to_z-of_z w64 row.order (record { sfits = omega arith })) c.len.ensures c.is_next.ensures
    c.if-not-is_next.false in
    let joins = walk_told edges before row c.args.line.now c.edge.result c.ends_after.result told
    (edge_at edges row.edge c.in-Some.index c.edge.result stands c.edge.ensures.place)
    c.ends_after.ensures in
    broken_line edges before row (is_known edges row.edge c.in-Some.index stands) next
    (not-true _ (sym new ∙ c.if-not-is_new.false))
    (joins ∙ sym c.is_walk.ensures ∙ c.if-not-is_walk.true)

pub returns-then-differs : goal.returns-then-differs
returns-then-differs c = λ before told new.
    let edges = c.args.network.now.edges in
    let row = c.args.row.now in
    let own = ap (λ id. position (int_eq id) (map (λ edge. edge.id) edges))
    (to_z-of_z w64 row.edge (record { sfits = omega arith })) in
    let stands = stands_at edges row.edge c.in-Some.index (sym own ∙ sym c.edge_index.ensures ∙ c.in-Some.is) in
    let next = next_told edges before row c.args.line.now _ c.len.result c.is_next.result _ told
    (to_z-of_z w64 row.order (record { sfits = omega arith })) c.len.ensures c.is_next.ensures
    c.if-not-is_next.false in
    let joins = walk_told edges before row c.args.line.now c.edge.result c.ends_after.result told
    (edge_at edges row.edge c.in-Some.index c.edge.result stands c.edge.ensures.place)
    c.ends_after.ensures in
    let new = not-true _ (sym new ∙ c.if-not-is_new.false) in
    let joined = joins ∙ sym c.is_walk.ensures ∙ c.if-not-is_walk.false in
    let differs = frequency_told edges before row c.args.line.now _ c.differs.result _ told
    (to_z-of_z w64 row.frequency (record { sfits = omega arith })) c.differs.ensures
    c.if-differs.true in
    frequency_differs edges before row (is_known edges row.edge c.in-Some.index stands) next new joined differs

pub returns : goal.returns
returns c = λ before told new.
    let edges = c.args.network.now.edges in
    let row = c.args.row.now in
    let own = ap (λ id. position (int_eq id) (map (λ edge. edge.id) edges))
    (to_z-of_z w64 row.edge (record { sfits = omega arith })) in
    let stands = stands_at edges row.edge c.in-Some.index (sym own ∙ sym c.edge_index.ensures ∙ c.in-Some.is) in
    let next = next_told edges before row c.args.line.now _ c.len.result c.is_next.result _ told
    (to_z-of_z w64 row.order (record { sfits = omega arith })) c.len.ensures c.is_next.ensures
    c.if-not-is_next.false in
    let joins = walk_told edges before row c.args.line.now c.edge.result c.ends_after.result told
    (edge_at edges row.edge c.in-Some.index c.edge.result stands c.edge.ensures.place)
    c.ends_after.ensures in
    let new = not-true _ (sym new ∙ c.if-not-is_new.false) in
    let joined = joins ∙ sym c.is_walk.ensures ∙ c.if-not-is_walk.false in
    let differs = frequency_told edges before row c.args.line.now _ c.differs.result _ told
    (to_z-of_z w64 row.frequency (record { sfits = omega arith })) c.differs.ensures
    c.if-differs.false in
    (row_fits edges before row (is_known edges row.edge c.in-Some.index stands) next new joined differs, stands)
