use Rattle.plan_num.proofs.Common.{arith, length, nat_eq, refl, ◌≡◌, Some, IfNone, IfSome, ap, sym}
use Rattle.plan_num.proofs.Common.{◌∙◌, subst, option_copied, length-map, IfOk-weaker}
use Rattle.line_cost_model.proofs.Common.{IsFeasible, is_feasible, cost_of}
use Rattle.line_search.specs.ConceptTables.{concept_rows, frequencies_in, frequency_in, row_count}
use Rattle.line_search.specs.Judged.{Marks, Passes, first_broken, tree_rule}
use Rattle.line_search.proofs.Judging.{not_read, other_lines, out_of_bounds, by_tree, passes}
use Rattle.line_search.proofs.Judging.{none_then}
use Rattle.line_search.proofs.RowCounts.{concept_long, other_cells}
use Rattle.line_search.proofs.judge.first_fault.Goals as goal

pub returns-in_default-clause-first : goal.returns-in_default-clause-first
returns-in_default-clause-first c =
    not_read c.args.problem.now c.args.concept.now (option_copied c.args.tree)
    (sym c.in_default.is ∙ c.in_ok-table.ensures.read)

pub returns-then-not-has_row_count-clause-first : goal.returns-then-not-has_row_count-clause-first
returns-then-not-has_row_count-clause-first c =
    let problem = c.args.problem.now in
    let table = c.in-Some.table in
    let frequencies = frequencies_in problem table in
    let long = concept_long problem frequencies
    (length-map problem.lines (λ line. frequency_in table line.id)) in
    other_lines problem c.args.concept.now (option_copied c.args.tree) table
    (sym c.in-Some.is ∙ c.in_ok-table.ensures.read) frequencies refl
    (concept_rows problem frequencies) refl
    (other_cells table (concept_rows problem frequencies)
    (ap (nat_eq (length table)) long
    ∙ ap (λ count. nat_eq count (row_count problem.lines)) (sym c.len.ensures.len)
    ∙ sym c.has_row_count.ensures ∙ c.if-not-has_row_count.true))

pub returns-then-not-have_same_cells-clause-first :
    goal.returns-then-not-have_same_cells-clause-first
returns-then-not-have_same_cells-clause-first c =
    let problem = c.args.problem.now in
    other_lines problem c.args.concept.now (option_copied c.args.tree) c.in-Some.table
    (sym c.in-Some.is ∙ c.in_ok-table.ensures.read) c.in_ok-frequencies.frequencies.items
    c.in_ok-frequencies.ensures.read c.in_ok-rows_of_concept.field-0
    (c.in_ok-rows_of_concept.ensures ∙ ap (concept_rows problem) c.deref.ensures.value)
    (sym c.if-not-have_same_cells.true ∙ c.have_same_cells.ensures)

pub returns-then-not-is_feasible-clause-first : goal.returns-then-not-is_feasible-clause-first
returns-then-not-is_feasible-clause-first c = grind (arith, out_of_bounds, option_copied)

pub returns-in-Some-tree-clause-first : goal.returns-in-Some-tree-clause-first
returns-in-Some-tree-clause-first c =
    let problem = c.args.problem.now in
    let fs = c.in_ok-frequencies.frequencies.items in
    let text = c.in-Some-tree.text.now in
    IfOk-weaker c.tree_fault.result (λ answer. answer
    ≡ tree_rule problem (cost_of problem c.deref-in-Some-tree.result.now) (Some text))
    (λ answer. answer ≡ first_broken problem c.args.concept.now (option_copied c.args.tree))
    (λ answer is. is
    ∙ ap (λ fs. tree_rule problem (cost_of problem fs) (Some text))
    c.deref-in-Some-tree.ensures.value
    ∙ ap (λ tree. tree_rule problem (cost_of problem fs) (option_copied tree))
    (sym c.in-Some-tree.is)
    ∙ by_tree problem c.args.concept.now (option_copied c.args.tree) c.in-Some.table
    (sym c.in-Some.is ∙ c.in_ok-table.ensures.read) c.in_ok-frequencies.frequencies.items
    c.in_ok-frequencies.ensures.read c.in_ok-rows_of_concept.field-0
    (c.in_ok-rows_of_concept.ensures ∙ ap (concept_rows problem) c.deref.ensures.value)
    (sym c.if-not-have_same_cells.false ∙ c.have_same_cells.ensures)
    (sym c.if-not-is_feasible.false ∙ c.is_feasible.ensures.test
    ∙ ap (is_feasible problem) c.deref-2.ensures.value)) c.tree_fault.ensures.first

pub returns-in-Some-tree-clause-passes : goal.returns-in-Some-tree-clause-passes
returns-in-Some-tree-clause-passes c =
    let problem = c.args.problem.now in
    let fs = c.in_ok-frequencies.frequencies.items in
    let text = c.in-Some-tree.text.now in
    IfOk-weaker c.tree_fault.result (λ answer. IfNone answer (Marks problem c.deref-in-Some-tree.result.now text))
    (λ answer. IfNone answer (Passes problem c.args.concept.now (option_copied c.args.tree)))
    (λ answer. none_then answer (λ marks. passes problem c.args.concept.now
    (option_copied c.args.tree) c.in-Some.table
    (sym c.in-Some.is ∙ c.in_ok-table.ensures.read) c.in_ok-frequencies.frequencies.items
    c.in_ok-frequencies.ensures.read c.in_ok-rows_of_concept.field-0
    (c.in_ok-rows_of_concept.ensures ∙ ap (concept_rows problem) c.deref.ensures.value)
    (sym c.if-not-have_same_cells.false ∙ c.have_same_cells.ensures)
    (subst (IsFeasible problem) c.deref-2.ensures.value (c.if-not-is_feasible.ensures.means.0 refl))
    (subst (λ tree. IfSome (option_copied tree) (λ tree. Marks problem fs tree))
    (sym c.in-Some-tree.is)
    (subst (λ fs. Marks problem fs text) c.deref-in-Some-tree.ensures.value marks))))
    c.tree_fault.ensures.marks

pub returns-clause-first : goal.returns-clause-first
returns-clause-first c = grind (arith, option_copied, by_tree)

pub returns-clause-passes : goal.returns-clause-passes
returns-clause-passes c = grind (arith, passes, option_copied)
