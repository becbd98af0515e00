use Rattle.plan_num.proofs.Common.{Err, ap, ◌∙◌, err_from_is_err_and}
use Rattle.stage_chain.proofs.HandKept.{kept_no_more}
use Rattle.stage_chain.proofs.Visiting.{not_given, is_kept, is_making}
use Rattle.stage_chain.proofs.chain.visit.Goals as goal

pub returns-in_err-given-clause-visit : goal.returns-in_err-given-clause-visit
returns-in_err-given-clause-visit g c =
    let p = err_from_is_err_and c.from_residual.result c.from_residual.ensures.1 in
    not_given g.S.Stages.parts g.met.S.Stages.laws c.args.config.now c.args.stage c.args.progress.now
    c.args.progress.now _ c.files.result.now c.in_err-given.field-0.0 c.args.steps.now _ c.files.ensures
    c.in_err-given.ensures.bundle (p.1 ∙ ap Err p.2)

pub returns-in_ok-add-in-Some-clause-visit : goal.returns-in_ok-add-in-Some-clause-visit
returns-in_ok-add-in-Some-clause-visit g c =
    is_kept g.S.Stages.parts g.met.S.Stages.laws c.args.config.now c.args.stage c.args.progress.now c.add.new.self _ _
    c.files.result.now c.in_ok-given.given c.in-Some.made c.args.steps.now c.files.ensures
    c.in_ok-given.ensures.only_reads.contents c.in_ok-given.ensures.bundle
    (rw c.in-Some.is at c.in_ok-made.ensures.kept) c.in_ok-add-in-Some.ensures

pub returns-in_ok-add-in-Some-clause-no_hand_file : goal.returns-in_ok-add-in-Some-clause-no_hand_file
returns-in_ok-add-in-Some-clause-no_hand_file g c =
    kept_no_more c.args.progress.now c.add.new.self c.in_ok-given.given.stage c.in-Some.made c.requires
    (rw c.in-Some.is at c.in_ok-made.ensures.makes) c.in_ok-add-in-Some.ensures

pub returns-in_ok-bundle-in-None-clause-visit : goal.returns-in_ok-bundle-in-None-clause-visit
returns-in_ok-bundle-in-None-clause-visit g c =
    is_making g.S.Stages.parts g.met.S.Stages.laws c.args.config.now c.args.stage c.args.progress.now
    c.make.new.progress _ _ c.files.result.now c.in_ok-given.given c.args.steps.now c.make.new.steps _ c.files.ensures
    c.in_ok-given.ensures.only_reads.contents c.in_ok-given.ensures.bundle
    (rw c.in-None.is at c.in_ok-made.ensures.kept) (rw c.in_ok-bundle-in-None.ensures at c.make.ensures.makes)
