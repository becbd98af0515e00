use Rattle.plan_num.proofs.Common.{ℕ, Bool, false, get_or, length, slice_get, not, arith}
use Rattle.propagation.proofs.Firsts.{all_left, first_fails, first_passes, none_left}
use Rattle.propagation.proofs.marks.first_unmarked.Goals as goal

pub loop-event-init : goal.loop-event-init
loop-event-init c =
    let test : ℕ → Bool = λ event. not (get_or c.args.marks.now event false) in
    all_left test (length c.args.marks.now)

pub loop-event-preserved : goal.loop-event-preserved
loop-event-preserved c =
    let test : ℕ → Bool = λ event. not (get_or c.args.marks.now event false) in grind (
      arith,
      first_fails,
    )

pub returns-then-not-marks-event : goal.returns-then-not-marks-event
returns-then-not-marks-event c =
    let test : ℕ → Bool = λ event. not (get_or c.args.marks.now event false) in grind (
      arith,
      slice_get,
      first_passes,
    )

pub returns : goal.returns
returns c =
    let test : ℕ → Bool = λ event. not (get_or c.args.marks.now event false) in grind (
      arith,
      slice_get,
      none_left,
    )
