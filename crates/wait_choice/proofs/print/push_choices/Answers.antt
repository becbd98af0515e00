use Rattle.plan_num.proofs.Common.{◌∙◌, ◌++◌, ◌<◌, Bool, false, get_or, length, ap, sym, arith, zip}
use Rattle.plan_num.proofs.Common.{get_or-zip, length-zip}
use Rattle.propagation.specs.declared.step.Activity.{Activity}
use Rattle.wait_choice.specs.PrintedRows.{RowFits}
use Rattle.wait_choice.specs.WaitTexts.{choice_row}
use Rattle.wait_choice.proofs.ListItems.{all_taken, behind_pushed, fits_pushed, got}
use Rattle.wait_choice.proofs.print.push_choices.Goals as goal

none : Activity
none = record { id = 0; step = record { from = 0; to = 0; lower = 0; extra = 0 } }

pub loop-change-preserved : goal.loop-change-preserved
loop-change-preserved c =
    let kept = c.args.kept.now in
    let changes = c.args.problem.now.changes in
    let i = c.loop-change.change in
    let here : i < length kept = omega (arith, c.loop-change-test.true, c.len-change-end.ensures) in
    let there : i < length changes = omega (arith, here, c.requires.each) in
    record {
      told = behind_pushed (λ (at : Bool × Activity). choice_row at.0 at.1) (zip kept changes) i
          (false, none) c.args.rows.now.items
          c.loop-change.rows.items c.push.new.self.items c.choice_row.result
          (omega (arith, length-zip kept changes, here, there)) c.in_ok-push.ensures.items c.loop-change.invariant.told
          (c.choice_row.ensures.row none ∙ ap (λ is. choice_row is (get_or changes i none))
          (got kept i false c.at.result c.at.ensures)
          ∙ ap (λ (at : Bool × Activity). choice_row at.0 at.1)
          (sym (get_or-zip kept changes i (false, none) here there)));
      fit = fits_pushed RowFits c.loop-change.rows.items c.push.new.self.items c.choice_row.result
          c.in_ok-push.ensures.items c.loop-change.invariant.fit c.choice_row.ensures.fits;
    }

pub returns-clause-rows : goal.returns-clause-rows
returns-clause-rows c =
    let kept = c.args.kept.now in
    let changes = c.args.problem.now.changes in
    c.loop-change.invariant.told
    ∙ ap (λ some. c.args.rows.now.items ++ some)
    (all_taken (λ (at : Bool × Activity). choice_row at.0 at.1) (zip kept changes) c.loop-change.change
    (omega (arith, length-zip kept changes, c.loop-change-test.false, c.len-change-end.ensures)))
