use Rattle.plan_num.proofs.Common.{arith, ints, slice_get-get_or, get_or}
use Rattle.pesp_judge.proofs.Slacks.{nothing}
use Rattle.pesp_judge.proofs.cycle.step_at.Goals as goal

pub returns : goal.returns
returns c =
    let all = c.activities.ensures.all in
    let period = c.period.ensures.value in
    record {
      it = get_or c.args.weighted.now.activities c.args.place nothing;
      there = slice_get-get_or c.args.weighted.now.activities c.args.place nothing c.requires;
      start = grind (arith, all, c.ends-start.ensures);
      end = grind (arith, all, c.ends-start.ensures);
      lower = grind (arith, ints, all);
      span = grind (arith, ints, all, period, c.span.ensures);
    }
