use Rattle.plan_num.proofs.Common.{◌%◌, ◌<◌, arith}
use Rattle.std.proofs.Math.Nat.{mod-lt}
use Rattle.pesp.proofs.Ties.{repeats_rest}
use Rattle.pesp.proofs.cycles.common.Goals as goal

pub divisions-preserved : goal.divisions-preserved
divisions-preserved c =
    let so = c.divisions.invariant in
    let rest : c.divisions.one % c.divisions.other < c.divisions.other =
    mod-lt c.divisions.one (omega (arith, c.divisions-test.true)) in
    record {
      few = λ bound first second.
          let parts = so.few bound first second in
          let other = parts.1 in (other, omega (arith, rest, other));
      repeats = λ period left some first second.
          let parts = so.repeats period left some first second in
          (parts.1, repeats_rest period left some c.divisions.one c.divisions.other parts.0 parts.1);
    }
