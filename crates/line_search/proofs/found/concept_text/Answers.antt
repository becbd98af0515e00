use Rattle.plan_num.proofs.Common.{All, arith, ap, refl, sym, subst, ◌∙◌}
use Rattle.tables.proofs.Common.{concept_columns, InColumns, plain_header, columns_written}
use Rattle.line_search.specs.ConceptTables.{concept_header, concept_rows}
use Rattle.line_search.proofs.ConceptWritten.{concept_inside, concept_told}
use Rattle.line_search.proofs.found.concept_text.Goals as goal

pub write_table-requires : goal.write_table-requires
write_table-requires c =
    let inside = concept_inside c.args.problem.now c.line_count.ensures.sound
    c.args.best.now.frequencies.items c.requires.few in (
      omega arith,
      (
        omega arith,
        (
          omega arith,
          (
            omega arith,
            (
              columns_written concept_columns refl,
              (
                subst (All (λ row. InColumns concept_columns row.cells)) (sym (c.in_ok-table.ensures
                    ∙ ap (concept_rows c.args.problem.now) c.deref.ensures.value)) inside,
                (refl, plain_header concept_header refl),
              ),
            ),
          ),
        ),
      ),
    )

pub returns : goal.returns
returns c =
    concept_told c.args.problem.now c.args.best.now.frequencies.items c.in_ok-table.table
    (c.in_ok-table.ensures ∙ ap (concept_rows c.args.problem.now) c.deref.ensures.value)
    c.write_table.result c.write_table.ensures.text
