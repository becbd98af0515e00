use Rattle.plan_num.proofs.Common.{◌≤◌, ◌++◌, ◌∷◌, ◌∙◌, List, map, pos, length, ap, refl, subst}
use Rattle.plan_num.proofs.Common.{sym, arith, take, w64, flat_map, take_all}
use Rattle.std.proofs.lemmas.Int.{to_z-of_z}
use Rattle.tables.proofs.Common.{tree_columns, TableRow, InColumns, line_text}
use Rattle.line_cost_model.specs.declared.multipliers.Multiplier.{Multiplier}
use Rattle.branch_certificate.specs.TreeTexts.{cells_row, edge_id, row_with}
use Rattle.plan_num.proofs.SortedIds.{kept_more}
use Rattle.line_concepts.proofs.FewMultipliers.{few_multipliers}
use Rattle.branch_certificate.proofs.WriteInside.{bound_inside, multiplier_inside}
use Rattle.branch_certificate.proofs.WriteRows.{edge_there, line_behind, lone_line, same_row}
use Rattle.branch_certificate.proofs.write.push_bound.Goals as goal

pub overflow_cast-len : goal.overflow_cast-len
overflow_cast-len c = grind (arith, few_multipliers)

pub push_row-requires : goal.push_row-requires
push_row-requires c = grind (arith, few_multipliers, to_z-of_z, same_row, bound_inside)

pub loop-i-init : goal.loop-i-init
loop-i-init c =
    let few = few_multipliers c.args.problem.now c.args.multipliers.now c.requires.sound
    c.len.ensures.sound c.requires.names in
    let count = to_z-of_z w64 (pos c.len.result) (record {
      sfits = omega (arith, few, c.len.ensures.len);
    }) ∙ ap pos c.len.ensures.len in
    lone_line c.args.bytes.now.items c.push_row.new.bytes.items _ _
    (same_row (pos 2) _ _ (pos 0) (pos 0) (pos 0) (pos 0) count refl refl) c.in_ok-push_row.ensures

pub id_of_edge-requires : goal.id_of_edge-requires
id_of_edge-requires c =
    edge_there _ c.args.multipliers.now c.loop-i.i c.get-edge.result c.requires.names
    c.get-edge.ensures

pub push_row-requires-in-loop-i : goal.push_row-requires-in-loop-i
push_row-requires-in-loop-i c =
    let id = to_z-of_z w64 c.id_of_edge.result (record {
      sfits = omega (arith, c.id_of_edge.type_inv);
    }) ∙ c.id_of_edge.ensures in
    let amount = to_z-of_z w64 c.get-edge.result.1 (record {
      sfits = omega (arith, c.get-edge.type_inv);
    }) in
    subst (λ (row : TableRow). InColumns tree_columns row.cells)
    (sym (same_row (pos 3) _ _ (pos 0) (pos 0) _ _ id refl amount))
    (multiplier_inside c.args.problem.now c.requires.sound c.args.multipliers.now c.loop-i.i
    c.get-edge.result c.requires.names c.len.ensures.sound.amounts c.get-edge.ensures)

pub loop-i-preserved : goal.loop-i-preserved
loop-i-preserved c =
    let problem = c.args.problem.now in
    let multipliers = c.args.multipliers.now in
    let first = row_with 2 (pos (length multipliers)) 0 0 in
    let id = to_z-of_z w64 c.id_of_edge.result (record {
      sfits = omega (arith, c.id_of_edge.type_inv);
    }) ∙ c.id_of_edge.ensures in
    let amount = to_z-of_z w64 c.get-edge.result.1 (record {
      sfits = omega (arith, c.get-edge.type_inv);
    }) in
    let told = c.get-edge.result in
    line_behind c.args.bytes.now.items c.loop-i.bytes.items c.push_row-in-loop-i.new.bytes.items
    (first ∷ map (λ (one : Multiplier). row_with 3 (edge_id problem one.edge) 0 one.amount)
    (take c.loop-i.i multipliers)) _ (cells_row (pos 3) (edge_id problem told.0) (pos 0) told.1)
    (same_row (pos 3) _ _ (pos 0) (pos 0) _ _ id refl amount) c.loop-i.invariant
    c.in_ok-push_row-2.ensures
    ∙ ap (λ (rows : List TableRow). c.args.bytes.now.items
    ++ flat_map (line_text tree_columns) (first ∷ rows))
    (sym (kept_more (λ (one : Multiplier). (one.edge, pos one.amount))
    (λ r. cells_row (pos 3) (edge_id problem r.0) (pos 0) r.1) multipliers c.loop-i.i
    c.get-edge.result c.get-edge.ensures))

pub returns-clause-lines : goal.returns-clause-lines
returns-clause-lines c =
    let problem = c.args.problem.now in
    let multipliers = c.args.multipliers.now in
    let past : length multipliers ≤ c.loop-i.i = omega arith in
    c.loop-i.invariant
    ∙ ap (λ (some : List Multiplier). c.args.bytes.now.items ++ flat_map (line_text tree_columns)
    (row_with 2 (pos (length multipliers)) 0 0
    ∷ map (λ one. row_with 3 (edge_id problem one.edge) 0 one.amount) some))
    (take_all c.loop-i.i multipliers past)
