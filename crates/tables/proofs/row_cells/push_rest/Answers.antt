use Rattle.plan_num.proofs.Common.{◌≡◌, ◌<◌, ◌++◌, ◌∷◌, [], length, arith, refl, sym, ◌∙◌}
use Rattle.std.proofs.lemmas.Int.{to_z-of_z}
use Rattle.tables.specs.declared.read_fault.RowFault.{RowFault}
use Rattle.tables.specs.declared.row_why.RowWhy.{RowWhy}
use Rattle.tables.proofs.CellFacts.{cell_taken, cell_refused, cells_whole}
use Rattle.tables.proofs.row_cells.push_rest.Goals as goal

pub loop-index-init : goal.loop-index-init
loop-index-init c = record { grows = omega arith; errors_left = refl; cells_left = refl }

pub returns-in-Err-clause-gives : goal.returns-in-Err-clause-gives
returns-in-Err-clause-gives c =
    let inside : c.loop-index.index < length c.args.row.now.fields = omega arith in
    let as_fault = λ (reason : RowWhy). let fault : RowFault = record {
      row = c.args.row.now.number;
      why = reason;
    } in fault in
    rw c.number-row.ensures (cell_refused c.args.kinds.now c.args.row.now.fields c.loop-index.index
    _ c.in-Err.why _ as_fault (omega arith) inside
    (sym c.cell_in.ensures ∙ c.in-Err.is)
    c.loop-index.invariant.errors_left)

pub loop-index-preserved : goal.loop-index-preserved
loop-index-preserved c =
    let inside : c.loop-index.index < length c.args.row.now.fields = omega arith in
    let pushed : c.push.new.self.items ≡ c.loop-index.cells.items
    ++ c.in-Ok.cell ∷ [] = grind (arith, to_z-of_z) in
    let next = cell_taken c.args.kinds.now c.args.row.now.fields c.loop-index.index _ c.in-Ok.cell _
    _ _ _ (omega arith) inside (sym c.cell_in.ensures
    ∙ c.in-Ok.is) pushed c.loop-index.invariant.errors_left c.loop-index.invariant.cells_left in
    record { grows = omega arith; errors_left = next.0; cells_left = next.1 }

pub returns-clause-gives : goal.returns-clause-gives
returns-clause-gives c =
    cells_whole c.args.kinds.now c.args.row.now.fields c.loop-index.index _ _ _
    (omega arith) c.loop-index.invariant.errors_left c.loop-index.invariant.cells_left
