use Rattle.plan_num.proofs.Common.{ap, nat_eq, refl, sym, ◌∙◌, Some, err_from_is_err_and}
use Rattle.tables.proofs.Common.{refused_rows}
use Rattle.line_cost_model.proofs.Common.{is_feasible}
use Rattle.line_search.specs.ConceptTables.{frequencies_in, row_count}
use Rattle.line_search.specs.PinnedConcepts.{pinned_input}
use Rattle.line_search.proofs.PinnedCalls.{none_at_fault, other_bounds, other_count, other_rows}
use Rattle.line_search.proofs.pinned.table_frequencies.Goals as goal

pub returns-in_err-test_frequencies-clause-read : goal.returns-in_err-test_frequencies-clause-read
returns-in_err-test_frequencies-clause-read c =
    let problem = c.args.problem.now in
    let p = err_from_is_err_and c.from_residual.result c.from_residual.ensures.1 in
    rw (p.1, p.2) (refused_rows (pinned_input problem) c.args.table.now
    c.in_err-test_frequencies.field-0.0 refl (c.in_err-test_frequencies.ensures problem))

pub returns-then-not-has_row_count-clause-read : goal.returns-then-not-has_row_count-clause-read
returns-then-not-has_row_count-clause-read c =
    let problem = c.args.problem.now in
    let table = c.args.table.now in
    let kept = (c.in_ok-test_frequencies.ensures problem).0 in
    other_count problem table kept (frequencies_in problem table) refl
    (ap (λ count. nat_eq count (row_count problem.lines)) (sym c.len.ensures.len)
    ∙ sym c.has_row_count.ensures ∙ c.if-not-has_row_count.true)
    ∙ ap (λ why. Some why) (sym c.whole_file.ensures)

pub returns-then-not-branch-clause-read : goal.returns-then-not-branch-clause-read
returns-then-not-branch-clause-read c =
    let problem = c.args.problem.now in
    let table = c.args.table.now in
    let kept = (c.in_ok-test_frequencies.ensures problem).0 in
    other_rows problem table kept c.deref.result.now
    (c.deref.ensures.value ∙ c.in_ok-frequencies.ensures.read)
    (sym c.if-not-branch.true ∙ c.in_ok-are_of_pool.ensures)
    ∙ ap (λ why. Some why) (sym c.whole_file-then-not-branch.ensures)

pub returns-then-not-is_feasible-clause-read : goal.returns-then-not-is_feasible-clause-read
returns-then-not-is_feasible-clause-read c =
    let problem = c.args.problem.now in
    let table = c.args.table.now in
    let kept = (c.in_ok-test_frequencies.ensures problem).0 in
    other_bounds problem table kept c.deref.result.now
    (c.deref.ensures.value ∙ c.in_ok-frequencies.ensures.read)
    (sym c.if-not-branch.false ∙ c.in_ok-are_of_pool.ensures)
    (sym c.if-not-is_feasible.true ∙ c.is_feasible.ensures.test
    ∙ ap (is_feasible problem) (c.deref-2.ensures.value ∙ sym c.deref.ensures.value))
    ∙ ap (λ why. Some why) (sym c.whole_file-then-not-is_feasible.ensures)

pub returns-clause-read : goal.returns-clause-read
returns-clause-read c =
    let problem = c.args.problem.now in
    let table = c.args.table.now in
    let kept = (c.in_ok-test_frequencies.ensures problem).0 in (
      none_at_fault problem table kept c.deref.result.now
          (c.deref.ensures.value ∙ c.in_ok-frequencies.ensures.read)
          (sym c.if-not-branch.false ∙ c.in_ok-are_of_pool.ensures)
          (sym c.if-not-is_feasible.false ∙ c.is_feasible.ensures.test
          ∙ ap (is_feasible problem) (c.deref-2.ensures.value ∙ sym c.deref.ensures.value)),
      c.in_ok-frequencies.ensures.read,
    )
