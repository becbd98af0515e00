use Rattle.plan_num.proofs.Common.{nat_eq, get_or, arith, length-set}
use Rattle.line_cost_model.proofs.Lowered.{line_lowered, over_distinct}
use Rattle.line_cost_model.proofs.pass.take_off.Goals as goal

pub loop-line-preserved : goal.loop-line-preserved
loop-line-preserved c =
    let over = c.lines_over-line-items in grind (
      arith,
      get_or,
      nat_eq,
      over_distinct,
      length-set,
      line_lowered,
    )
