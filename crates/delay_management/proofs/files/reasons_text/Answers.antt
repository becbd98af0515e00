use Rattle.plan_num.proofs.Common.{◌≡◌, ◌∙◌, ◌+◌, ◌++◌, ◌∷◌, [], ℕ, ℤ, List, All, IfOk, get_or}
use Rattle.plan_num.proofs.Common.{take, ap, refl, sym, subst, arith, map_push}
use Rattle.tables.proofs.Common.{reasons_columns, TableRow, InColumns, table_text, plain_header}
use Rattle.tables.proofs.Common.{rows_by, columns_written}
use Rattle.propagation.specs.declared.reason.Reason.{Reason}
use Rattle.propagation.specs.declared.reason.Reason.TheVariants as reasons
use Rattle.delay_management.specs.DispositionStage.{ReasonRow, reason_cells, reason_rows, reasons_header}
use Rattle.delay_management.proofs.WrittenRows.{reason_table_fits, reasons_fit, row_more, rows_whole}
use Rattle.delay_management.proofs.files.reasons_text.Goals as goal

abbrev numbered : ℕ × Reason → ReasonRow
numbered at = record { event = at.0; reason = at.1 }

abbrev table_row : List ℤ → TableRow
table_row cells = record { number = 0; cells = cells }

pub loop-index-preserved : goal.loop-index-preserved
loop-index-preserved c =
    let all = c.args.reasons.now in
    let i = c.loop-index.index in
    let at = get_or all i reasons.Source in
    c.in_ok-push.ensures.ok
    ∙ ap (λ (table : List TableRow). table ++ table_row c.reason_cells.result ∷ []) c.loop-index.invariant
    ∙ ap (λ (cells : List ℤ). rows_by reason_cells (take i (reason_rows all)) ++ table_row cells ∷ [])
    c.reason_cells.ensures
    ∙ sym (map_push (λ (row : ReasonRow). table_row (reason_cells row)) (take i (reason_rows all))
    (numbered (i + 1, at)))
    ∙ ap (rows_by reason_cells) (sym (row_more numbered all i reasons.Source (omega (arith, c.loop-index-test.true))))

pub write_table-requires : goal.write_table-requires
write_table-requires c =
    let all = c.args.reasons.now in
    let is = c.loop-index.invariant ∙ ap (rows_by reason_cells)
    (rows_whole numbered all c.loop-index.index (omega (arith, c.loop-index-test.false))) in
    let fit = subst (All (λ (row : TableRow). InColumns reasons_columns row.cells)) (sym is)
    (reason_table_fits all (reasons_fit all c.requires.few c.requires.ids)) in (
      omega arith,
      (
        omega arith,
        (
          omega arith,
          (omega arith, (columns_written reasons_columns refl, (fit, (refl, plain_header reasons_header refl)))),
        ),
      ),
    )

pub returns : goal.returns
returns c =
    let all = c.args.reasons.now in
    let is = c.loop-index.invariant ∙ ap (rows_by reason_cells)
    (rows_whole numbered all c.loop-index.index (omega (arith, c.loop-index-test.false))) in
    subst (λ table. IfOk c.write_table.result (λ text. text ≡ table_text reasons_header reasons_columns table)) is
    c.write_table.ensures.text
