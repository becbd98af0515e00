use Rattle.plan_num.proofs.Common.{◌≡◌, ◌∙◌, ◌+◌, ◌++◌, drop, map, ℤ, Bool, ap, sym, subst, arith}
use Rattle.plan_num.proofs.Common.{append-nil, drop_all}
use Rattle.std.proofs.lemmas.Int.{to_z-of_z}
use mir.Syntax.{w64}
use Rattle.propagation.specs.declared.step.Activity.{Activity}
use Rattle.propagation.specs.LeastTimes.{time_at}
use Rattle.propagation.specs.Problems.{planned_at}
use Rattle.propagation.specs.Waiting.{waits}
use Rattle.propagation.proofs.waiting.kept_by.Goals as goal

pub returns : goal.returns
returns c =
    let by : ℤ → Activity → Bool = λ wait change. waits wait
    (time_at c.args.alone.now change.step.from + change.step.lower) (planned_at c.args.events.now change.step.to) in
    let f = by c.args.wait in
    let told = subst (λ wait. c.loop-change.kept.items ++ map (by wait)
    (drop c.loop-change.change-index c.args.changes.now) ≡ map (by wait) c.args.changes.now)
    (to_z-of_z w64 c.args.wait c.ranges.wait) c.loop-change.invariant in
    sym (append-nil c.loop-change.kept.items)
    ∙ ap (λ left. c.loop-change.kept.items ++ map f left)
    (sym (drop_all c.loop-change.change-index c.args.changes.now (omega (arith, c.loop-change-test.false))))
    ∙ told
