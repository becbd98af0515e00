use Rattle.plan_num.proofs.Common.{get_or, arith, length_push}
use Rattle.demand_paths.proofs.KnownOnes.{none_more}
use Rattle.demand_paths.proofs.known_paths.KnownPaths.new.Goals as goal

pub loop-stop-preserved : goal.loop-stop-preserved
loop-stop-preserved c =
    let put = c.in_ok-push.ensures.items in grind (arith, length_push, get_or, none_more)

pub returns : goal.returns
returns c =
    record {
      size = omega (arith, c.loop-stop.invariant.size, c.stop_count-stop-end.ensures.count);
      right = λ from within. grind arith;
    }
