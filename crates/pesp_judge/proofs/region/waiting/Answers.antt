use Rattle.plan_num.proofs.Common.{◌≡◌, false, arith, subst, get_or_from_slice_get}
use Rattle.pesp_judge.proofs.Ways.{no_split, waits_less}
use Rattle.pesp_judge.proofs.region.waiting.Goals as goal

pub splits-preserved : goal.splits-preserved
splits-preserved c =
    record {
      within = omega (arith, c.splits.invariant.within);
      left = λ period cycles slacks waits.
          waits_less period cycles slacks c.args.path.now c.splits.kept c.splits-test.true
          c.splits.invariant.within c.if-path-kept.true
          (c.splits.invariant.left period cycles slacks waits);
    }

pub returns-else-path-kept-clause-last : goal.returns-else-path-kept-clause-last
returns-else-path-kept-clause-last c = λ split some at.
    subst (λ split. split.least ≡ false)
    (get_or_from_slice_get c.args.path.now _ split no_split at) c.if-path-kept.false
