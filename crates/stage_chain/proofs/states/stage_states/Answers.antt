use Rattle.plan_num.proofs.Common.{subst}
use Rattle.plan_files.proofs.Common.{OnlyReads}
use Rattle.stage_chain.proofs.Stating.{settled_states, unsettled_states, untold_failed}
use Rattle.stage_chain.proofs.states.stage_states.Goals as goal

pub returns-in-Ok-clause-outcome : goal.returns-in-Ok-clause-outcome
returns-in-Ok-clause-outcome g c =
    settled_states g.S.Stages.parts g.met.S.Stages.laws _ _ c.in-Ok.config _ c.in-Ok.ensures.only_reads.contents
    c.in-Ok.ensures.config c.told.ensures.end c.told.ensures.report

pub returns-in-Err-clause-outcome : goal.returns-in-Err-clause-outcome
returns-in-Err-clause-outcome g c =
    unsettled_states g.S.Stages.parts g.met.S.Stages.laws _ c.in-Err.end _ c.in-Err.ensures.config c.untold.ensures

pub returns-in-Err-clause-only_reads : goal.returns-in-Err-clause-only_reads
returns-in-Err-clause-only_reads g c =
    subst (OnlyReads g.F.Files.contents g.F.Files.writes g.F.Files.faults c.args.files.now c.read_config.new.files)
    (untold_failed c.in-Err.end _ c.untold.ensures) c.in-Err.ensures.only_reads
