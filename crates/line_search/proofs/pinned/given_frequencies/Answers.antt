use Rattle.plan_num.proofs.Common.{arith, ◌≡◌, subst, sym, ap, ◌∙◌, All, err_from_is_err_and}
use Rattle.tables.proofs.Common.{concept_columns, InColumns, UnlessFault-weaker, faults_of_table}
use Rattle.tables.proofs.Common.{refused_cells, table_in_columns}
use Rattle.line_search.specs.ConceptTables.{frequencies_in}
use Rattle.line_search.specs.Judged.{frequencies_of}
use Rattle.line_search.specs.PinnedConcepts.{pinned_input}
use Rattle.line_search.proofs.pinned.given_frequencies.Goals as goal
use Rattle.plan_num.proofs.Lists.{unmapped}

pub returns-in_err-table-clause-read : goal.returns-in_err-table-clause-read
returns-in_err-table-clause-read c =
    let p = err_from_is_err_and c.from_residual.result c.from_residual.ensures.1 in grind (
      arith,
      refused_cells,
    )

pub table_frequencies-requires : goal.table_frequencies-requires
table_frequencies-requires c =
    subst (All (λ row. InColumns concept_columns row.cells)) (sym c.in_ok-table.ensures.1)
    (table_in_columns concept_columns c.args.concept.now (unmapped _ _ c.in_ok-table.ensures.0))

pub returns-clause-read : goal.returns-clause-read
returns-clause-read c =
    let problem = c.args.problem.now in
    let text = c.args.concept.now in
    let table = c.in_ok-table.table in
    UnlessFault-weaker _ _ (λ all. all.items ≡ frequencies_in problem table)
    (λ all. all.items ≡ frequencies_of problem text) c.table_frequencies.result
    (faults_of_table (pinned_input problem) text table c.in_ok-table.ensures.0
    c.in_ok-table.ensures.1)
    (λ all is. is ∙ ap (frequencies_in problem) c.in_ok-table.ensures.1)
    c.table_frequencies.ensures.read
