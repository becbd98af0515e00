use Rattle.plan_num.proofs.Common.{Err, ap, refl, ◌∙◌, err_from_is_err_and}
use Rattle.stage_chain.proofs.ChainLaws.{chain_laws}
use Rattle.stage_chain.proofs.RunSays.{both_says, cut_says}
use Rattle.stage_chain.proofs.run.run_chain.Goals as goal

pub returns-in_err-clear-clause-says : goal.returns-in_err-clear-clause-says
returns-in_err-clear-clause-says g c =
    let p = err_from_is_err_and c.from_residual.result c.from_residual.ensures.1 in
    cut_says g.S.Stages.parts g.met.S.Stages.laws (Unit {0}) c.args.mode _ _ c.in_err-clear.field-0.0 _ (p.1 ∙ ap Err p.2)
    c.in_err-clear.ensures.err c.clear.ensures.hand c.clear.ensures.writes_no_hand_file
    c.in_err-clear.ensures.faults refl

pub returns-clause-says : goal.returns-clause-says
returns-clause-says g c =
    both_says g.S.Stages.parts g.met.S.Stages.laws c.args.mode _ _ _ _ c.run_kept.ensures
    c.in_ok-clear.ensures.ok c.in_ok-clear.ensures.faults refl c.clear.ensures.hand
    c.clear.ensures.writes_no_hand_file

pub returns-in_err-clear-clause-laws : goal.returns-in_err-clear-clause-laws
returns-in_err-clear-clause-laws g c = chain_laws g.S.Stages.parts g.met.S.Stages.laws

pub returns-clause-laws : goal.returns-clause-laws
returns-clause-laws g c = chain_laws g.S.Stages.parts g.met.S.Stages.laws
