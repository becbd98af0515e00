use Rattle.plan_num.proofs.Common.{Err, ap, ◌∙◌, err_from_is_err_and}
use Rattle.stage_chain.proofs.Starting.{refused, settled}
use Rattle.stage_chain.proofs.chain.run_built.Goals as goal

pub returns-in_err-config-clause-chain : goal.returns-in_err-config-clause-chain
returns-in_err-config-clause-chain g c =
    let p = err_from_is_err_and c.from_residual.result c.from_residual.ensures.1 in
    refused g.S.Stages.parts g.met.S.Stages.laws _ c.in_err-config.field-0.0 c.args.progress.now c.args.steps.now _
    c.requires c.in_err-config.ensures.config (p.1 ∙ ap Err p.2)

pub returns-clause-chain : goal.returns-clause-chain
returns-clause-chain g c =
    settled g.S.Stages.parts g.met.S.Stages.laws _ _ c.in_ok-config.config c.run_stages.new.progress c.args.steps.now
    c.run_stages.new.steps _ c.in_ok-config.ensures.only_reads.contents c.in_ok-config.ensures.config
    c.run_stages.ensures.chain
