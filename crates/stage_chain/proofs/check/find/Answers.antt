use Rattle.plan_num.proofs.Common.{subst}
use Rattle.plan_files.proofs.Common.{OnlyReads}
use Rattle.stage_chain.proofs.Passed.{told_passes, unsettled_passes}
use Rattle.stage_chain.proofs.Judging.{told_settled, told_unsettled, unsettled_failed}
use Rattle.stage_chain.proofs.check.find.Goals as goal

pub returns-in-Ok-clause-found : goal.returns-in-Ok-clause-found
returns-in-Ok-clause-found g c =
    told_settled g.S.Stages.parts g.met.S.Stages.laws _ _ c.in-Ok.config _ c.in-Ok.ensures.only_reads.contents
    c.in-Ok.ensures.config c.find_under.ensures.found

pub returns-in-Err-clause-found : goal.returns-in-Err-clause-found
returns-in-Err-clause-found g c =
    told_unsettled g.S.Stages.parts g.met.S.Stages.laws _ c.in-Err.end _ c.in-Err.ensures.config c.unsettled.ensures

pub returns-in-Err-clause-only_reads : goal.returns-in-Err-clause-only_reads
returns-in-Err-clause-only_reads g c =
    subst (OnlyReads g.F.Files.contents g.F.Files.writes g.F.Files.faults c.args.files.now c.read_config.new.files)
    (unsettled_failed c.in-Err.end _ c.unsettled.ensures) c.in-Err.ensures.only_reads

pub returns-in-Ok-clause-passes : goal.returns-in-Ok-clause-passes
returns-in-Ok-clause-passes g c =
    told_passes g.S.Stages.parts g.met.S.Stages.laws _ _ c.in-Ok.config _ c.in-Ok.ensures.only_reads.contents
    c.in-Ok.ensures.config c.find_under.ensures.passes

pub returns-in-Err-clause-passes : goal.returns-in-Err-clause-passes
returns-in-Err-clause-passes g c =
    unsettled_passes g.S.Stages.parts g.met.S.Stages.laws _ c.in-Err.end _ c.unsettled.ensures
