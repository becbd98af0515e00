use Rattle.plan_num.proofs.Common.{Err, Option, ap, ◌∙◌, err_from_is_err_and}
use Rattle.stage_chain.specs.declared.cause.Cause.{Cause}
use Rattle.stage_chain.proofs.KeptRuns.{made_says, read_says}
use Rattle.stage_chain.proofs.run.run_kept.Goals as goal

pub returns-in_err-cause : goal.returns-in_err-cause
returns-in_err-cause g c =
    let p = err_from_is_err_and c.from_residual.result c.from_residual.ensures.1 in
    let reads = c.in_err-cause.ensures.only_reads in
    read_says g.S.Stages.parts g.met.S.Stages.laws _ _ c.run_to_end.new.progress (Option Cause) c.in_err-cause.field-0.0 _
    (p.1 ∙ ap Err p.2) reads.contents reads.writes reads.faults c.run_to_end.ensures.no_less
    c.in_err-cause.ensures.end

pub returns : goal.returns
returns g c =
    let reads = c.in_ok-cause.ensures.only_reads in
    made_says g.S.Stages.parts g.met.S.Stages.laws _ _ c.run_to_end.new.progress c.in_ok-cause.cause _ _ _ _
    reads.contents reads.writes reads.faults c.run_to_end.ensures.no_less c.in_ok-cause.ensures.end
    (c.finish.ensures.report, c.finish.ensures.end) (
      c.finish.ensures.left,
      c.finish.ensures.unfinished,
      c.finish.ensures.hand,
      c.finish.ensures.writes_no_hand_file,
      c.finish.ensures.faults,
    )
