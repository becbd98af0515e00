use Rattle.plan_num.proofs.Common.{map, position, ap, sym, ◌∙◌, arith, w64, int_eq}
use Rattle.std.proofs.lemmas.Int.{to_z-of_z}
use Rattle.ptn_network.proofs.EdgeIds.{stands_at, stands_within, is_known, none_with}
use Rattle.ptn_network.proofs.LoadRows.{unknown, repeated, crossed, fits, is_given}
use Rattle.ptn_network.proofs.loads.new_place.Goals as goal

pub returns-in_default : goal.returns-in_default
returns-in_default c = λ before are.
    let edges = c.args.network.now.edges in
    let row = c.args.row.now in
    let own = ap (λ id. position (int_eq id) (map (λ edge. edge.id) edges))
    (to_z-of_z w64 row.edge (record { sfits = omega arith })) in
    unknown edges before row (none_with edges row.edge (sym own ∙ sym c.edge_index.ensures
    ∙ c.in_default.is))

pub is_given-requires : goal.is_given-requires
is_given-requires c =
    let edges = c.args.network.now.edges in
    let row = c.args.row.now in
    let own = ap (λ id. position (int_eq id) (map (λ edge. edge.id) edges))
    (to_z-of_z w64 row.edge (record { sfits = omega arith })) in
    let at = stands_at edges row.edge c.in-Some.index (sym own ∙ sym c.edge_index.ensures
    ∙ c.in-Some.is) in
    omega (arith, stands_within edges row.edge c.in-Some.index at, c.requires)

pub returns-then-is_given : goal.returns-then-is_given
returns-then-is_given c = λ before are.
    let edges = c.args.network.now.edges in
    let row = c.args.row.now in
    let own = ap (λ id. position (int_eq id) (map (λ edge. edge.id) edges))
    (to_z-of_z w64 row.edge (record { sfits = omega arith })) in
    let is = sym own ∙ sym c.edge_index.ensures ∙ c.in-Some.is in
    let at = stands_at edges row.edge c.in-Some.index is in
    repeated edges before row (is_known edges row.edge c.in-Some.index at)
    (sym (is_given edges before row c.args.given.now c.in-Some.index are at)
    ∙ sym c.is_given.ensures ∙ c.if-is_given.true)

pub returns-then-has_crossed_bounds : goal.returns-then-has_crossed_bounds
returns-then-has_crossed_bounds c = λ before are.
    let edges = c.args.network.now.edges in
    let row = c.args.row.now in
    let own = ap (λ id. position (int_eq id) (map (λ edge. edge.id) edges))
    (to_z-of_z w64 row.edge (record { sfits = omega arith })) in
    let is = sym own ∙ sym c.edge_index.ensures ∙ c.in-Some.is in
    let at = stands_at edges row.edge c.in-Some.index is in
    crossed edges before row (is_known edges row.edge c.in-Some.index at)
    (sym (is_given edges before row c.args.given.now c.in-Some.index are at)
    ∙ sym c.is_given.ensures ∙ c.if-is_given.false)
    (sym c.has_crossed_bounds.ensures ∙ c.if-has_crossed_bounds.true)

pub returns : goal.returns
returns c = λ before are.
    let edges = c.args.network.now.edges in
    let row = c.args.row.now in
    let own = ap (λ id. position (int_eq id) (map (λ edge. edge.id) edges))
    (to_z-of_z w64 row.edge (record { sfits = omega arith })) in
    let is = sym own ∙ sym c.edge_index.ensures ∙ c.in-Some.is in
    let at = stands_at edges row.edge c.in-Some.index is in (
      fits edges before row (is_known edges row.edge c.in-Some.index at)
          (sym (is_given edges before row c.args.given.now c.in-Some.index are at)
          ∙ sym c.is_given.ensures ∙ c.if-is_given.false)
          (sym c.has_crossed_bounds.ensures ∙ c.if-has_crossed_bounds.false),
      at,
    )
