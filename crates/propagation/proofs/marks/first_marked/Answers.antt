use Rattle.plan_num.proofs.Common.{ℕ, Bool, false, get_or, slice_get, arith}
use Rattle.propagation.proofs.Firsts.{all_left, first_fails, first_passes, none_left}
use Rattle.propagation.proofs.marks.first_marked.Goals as goal

pub loop-event-init : goal.loop-event-init
loop-event-init c =
    let test : ℕ → Bool = λ event. get_or c.args.marks.now event false in grind (arith, all_left)

pub loop-event-preserved : goal.loop-event-preserved
loop-event-preserved c =
    let test : ℕ → Bool = λ event. get_or c.args.marks.now event false in grind (arith, first_fails)

pub returns-then-marks-event : goal.returns-then-marks-event
returns-then-marks-event c =
    let test : ℕ → Bool = λ event. get_or c.args.marks.now event false in grind (
      arith,
      slice_get,
      first_passes,
    )

pub returns : goal.returns
returns c =
    let test : ℕ → Bool = λ event. get_or c.args.marks.now event false in grind (
      arith,
      slice_get,
      none_left,
    )
