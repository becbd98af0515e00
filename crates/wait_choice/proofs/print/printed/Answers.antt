use Rattle.std.proofs.Common.{◌≡◌, ◌∙◌, IfOk, subst}
use Rattle.tables.proofs.Common.{ReadsAs, file_text}
use Rattle.wait_choice.specs.WaitTexts.{wait_cells, wait_row, waits_columns, waits_header, waits_text}
use Rattle.wait_choice.proofs.Passing.{printed_passes}
use Rattle.wait_choice.proofs.print.printed.Goals as goal

pub returns-clause-text : goal.returns-clause-text
unfolding waits_text
returns-clause-text c =
    subst (λ rows. IfOk c.rows_text.result (λ text. text ≡ file_text waits_header waits_columns wait_cells rows))
    (c.deref.ensures.value ∙ c.in_ok-rows.ensures.rows) c.rows_text.ensures.text

pub returns-clause-passes : goal.returns-clause-passes
returns-clause-passes c =
    printed_passes c.args.problem.now c.args.waits.now c.waits_rows.ensures.forward c.waits_rows.ensures.rise
    c.rows_text.result
    (subst (λ rows. IfOk c.rows_text.result (ReadsAs waits_columns wait_row rows))
    (c.deref.ensures.value ∙ c.in_ok-rows.ensures.rows) c.rows_text.ensures.back)
