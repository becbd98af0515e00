-- The pass goes on from the times so far as it does from the first ones, and no time has grown by more than the
-- steps so far take.
use Rattle.plan_num.proofs.Common.{◌≡◌, ◌+◌, ◌*◌, ◌≤◌, drop, length, All}
use Rattle.propagation.specs.Links.{pushed_along}
use Rattle.propagation.proofs.pass.push_along.Given as goal

abbrev pub invariant-loop-link : goal.invariant-loop-link
invariant-loop-link l = record {
  told : pushed_along l.kept (drop l.link-index l.links) l.times.items ≡ pushed_along l.kept l.links l.fn.times.items;
  each : length l.times.items ≡ length l.fn.times.items;
  soon : All (λ time. time ≤ 8589934590 + l.link-index * 8589934590) l.times.items;
}
