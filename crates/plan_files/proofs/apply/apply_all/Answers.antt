use Rattle.plan_num.proofs.Common.{◌∙◌, refl, err_from_is_err_and}
use Rattle.plan_files.proofs.Applying.{none_applied, more_applied, cut_short, all_applied}
use Rattle.plan_files.proofs.apply.apply_all.Goals as goal

pub loop-write-init : goal.loop-write-init
loop-write-init g c = record { applied = none_applied _ _; faults = refl }

pub loop-write-preserved : goal.loop-write-preserved
loop-write-preserved g c = record {
  applied =
      more_applied c.args.writes.now c.loop-write.write-index c.write-item.result _ _ _ _ _ _
      c.loop-write-test.true c.write-item.is c.loop-write.invariant.applied
      c.in_ok-apply.ensures.contents c.in_ok-apply.ensures.writes;
  faults = c.in_ok-apply.ensures.faults ∙ c.loop-write.invariant.faults;
}

pub returns-in_err-apply-clause-err : goal.returns-in_err-apply-clause-err
returns-in_err-apply-clause-err g c =
    let p = err_from_is_err_and c.from_residual.result c.from_residual.ensures.1 in
    rw (p.1, p.2)
    (cut_short c.in_err-apply.field-0.0 c.args.writes.now c.loop-write.write-index
    c.write-item.result _ _ _ _ _ _ c.loop-write-test.true c.write-item.is
    c.loop-write.invariant.applied c.in_err-apply.ensures.contents
    c.in_err-apply.ensures.writes)

pub returns-clause-ok : goal.returns-clause-ok
returns-clause-ok g c =
    all_applied c.args.writes.now c.loop-write.write-index _ _ _ _ c.loop-write-test.false
    c.loop-write.invariant.applied
