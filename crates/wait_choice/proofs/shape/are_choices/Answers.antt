use Rattle.std.proofs.Common.{◌+◌, ◌∙◌, ◌<◌, ◌&&◌, true, false, drop, get_or, length, ap, sym, refl, arith}
use Rattle.std.specs.List.{list_all}
use Rattle.propagation.specs.declared.step.Activity.{Activity}
use Rattle.wait_choice.specs.declared.row.WaitRow.TheVariants as row
use Rattle.wait_choice.specs.Judged.{is_node}
use Rattle.wait_choice.proofs.ListItems.{choices_are, fit_end, fit_more, left_fit, rest_all}
use Rattle.wait_choice.proofs.shape.are_choices.Goals as goal

none : Activity
none = record { id = 0; step = record { from = 0; to = 0; lower = 0; extra = 0 } }

pub returns-then-not-is_choice : goal.returns-then-not-is_choice
returns-then-not-is_choice c =
    let rows = c.args.rows.now in
    let changes = c.args.problem.now.changes in
    let i = c.loop-change.change in
    let count = c.change_count-count.ensures.count in
    let here : i < length changes = omega (arith, c.loop-change-test.true, count) in
    let there : i < length rows = omega (arith, c.loop-change-test.true, c.if-rows-count.false) in
    let out = sym (c.if-not-is_choice.ensures (get_or changes i none) (c.id_at.ensures.id none)) in
    choices_are changes rows false (list_all is_node (drop (length changes) rows))
    (omega (arith, count, c.if-rows-count.false))
    (c.loop-change.invariant ∙ fit_more rows changes i (row.Cost 0) none there here
    ∙ ap (λ b. b && left_fit rows changes i (row.Cost 0) none (i + 1)) out) refl

pub loop-change-preserved : goal.loop-change-preserved
loop-change-preserved c =
    let rows = c.args.rows.now in
    let changes = c.args.problem.now.changes in
    let i = c.loop-change.change in
    let count = c.change_count-count.ensures.count in
    let here : i < length changes = omega (arith, c.loop-change-test.true, count) in
    let there : i < length rows = omega (arith, c.loop-change-test.true, c.if-rows-count.false) in
    let fits = sym (c.if-not-is_choice.ensures (get_or changes i none) (c.id_at.ensures.id none)) in
    c.loop-change.invariant ∙ fit_more rows changes i (row.Cost 0) none there here
    ∙ ap (λ b. b && left_fit rows changes i (row.Cost 0) none (i + 1)) fits

pub returns : goal.returns
returns c =
    let rows = c.args.rows.now in
    let changes = c.args.problem.now.changes in
    let count = c.change_count-count.ensures.count in
    c.are_nodes.ensures ∙ ap (list_all is_node) (rest_all rows c.change_count-count.result)
    ∙ choices_are changes rows true _ (omega (arith, count, c.if-rows-count.false))
    (c.loop-change.invariant ∙ fit_end rows changes c.loop-change.change
    (omega (arith, count, c.loop-change-test.false)))
    (ap (λ n. list_all is_node (drop n rows)) (sym count))
