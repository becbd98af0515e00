use Rattle.plan_num.proofs.Common.{◌≡◌, ◌∙◌, ◌<◌, ◌≤◌, ◌+◌, ◌%◌, ℕ, ap, arith, subst, sym}
use Rattle.plan_num.proofs.Common.{false≢true}
use Rattle.std.proofs.Math.Nat.{mod-lt}
use Rattle.pesp.specs.Cycles.{Repeats}
use Rattle.pesp.specs.Marks.{Marks}
use Rattle.pesp.proofs.Closing.{closes_more}
use Rattle.pesp.proofs.Ties.{repeats_on}
use Rattle.pesp.proofs.close.keep_all_repeated.Goals as goal

pub turns-preserved : goal.turns-preserved
turns-preserved c =
    let so = c.turns.invariant in
    let columns : ℕ = c.args.sets.now.sets.columns in
    let twice : ℕ = c.turns.by + c.turns.by in
    let period : c.period-period.result ≡ columns =
    c.period-period.ensures.value ∙ ap (λ (sets : Marks). sets.columns) c.sets.ensures in
    let some : 1 ≤ columns = omega (
      arith,
      period,
      c.period-period.ensures.sound.some,
      c.period-period.ensures.value,
    ) in
    record {
      closes = closes_more c.args.sets.now c.turns.sets c.keep_repeated.new.sets c.args.event
          c.args.minutes c.turns.by c.in_ok-keep_repeated.field-0 so.closes so.again
          c.in_ok-keep_repeated.ensures;
      again = λ left once. subst (λ n. Repeats columns left (twice % n)) (sym period)
          (repeats_on columns left some c.turns.by c.turns.by (so.again left once)
          (so.again left once));
      few = subst (λ n. twice % n < columns) (sym period) (mod-lt twice (omega (arith, some)));
      same = λ is. absurd (false≢true (sym is));
    }
