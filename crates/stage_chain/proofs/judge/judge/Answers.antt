use Rattle.plan_num.proofs.Common.{subst}
use Rattle.plan_files.proofs.Common.{OnlyReads}
use Rattle.stage_chain.proofs.Passed.{ended_stands, told_stands}
use Rattle.stage_chain.proofs.Judging.{ended_failed, judged_given, judged_ended}
use Rattle.stage_chain.proofs.judge.judge.Goals as goal

pub judge_files-requires-clause-stage : goal.judge_files-requires-clause-stage
judge_files-requires-clause-stage g c = c.in-Ok.ensures.stage

pub returns-in-Ok-clause-found : goal.returns-in-Ok-clause-found
returns-in-Ok-clause-found g c =
    judged_given g.S.Stages.parts g.met.S.Stages.laws c.args.config.now c.args.stage _ _ c.in-Ok.bundle _
    c.in-Ok.ensures.only_reads.contents c.in-Ok.ensures.bundle c.judge_files.ensures.found

pub returns-in-Err-clause-found : goal.returns-in-Err-clause-found
returns-in-Err-clause-found g c =
    judged_ended g.S.Stages.parts g.met.S.Stages.laws c.args.config.now c.args.stage _ c.in-Err.end _
    c.in-Err.ensures.bundle c.ended.ensures.found

pub returns-in-Err-clause-only_reads : goal.returns-in-Err-clause-only_reads
returns-in-Err-clause-only_reads g c =
    subst (OnlyReads g.F.Files.contents g.F.Files.writes g.F.Files.faults c.args.files.now c.gather.new.files)
    (ended_failed c.args.stage c.in-Err.end _ c.ended.ensures.found) c.in-Err.ensures.only_reads

pub returns-in-Ok-clause-passes : goal.returns-in-Ok-clause-passes
returns-in-Ok-clause-passes g c =
    told_stands g.S.Stages.parts g.met.S.Stages.laws _ _ c.args.config.now c.args.stage c.in-Ok.bundle _
    c.in-Ok.ensures.only_reads.contents c.in-Ok.ensures.bundle c.judge_files.ensures.passes

pub returns-in-Err-clause-passes : goal.returns-in-Err-clause-passes
returns-in-Err-clause-passes g c =
    ended_stands g.S.Stages.parts g.met.S.Stages.laws _ c.args.config.now c.args.stage c.in-Err.end _
    c.ended.ensures.found
