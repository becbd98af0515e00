use Rattle.plan_num.proofs.Common.{IfNone, refl, ap, subst, ◌∙◌, option_map}
use Rattle.giv_files.proofs.Common.{MakesAs, ids_of}
use Rattle.stage_chain.proofs.Judging.{judged_there}
use Rattle.stage_chain.proofs.Passed.{told_there}
use Rattle.stage_chain.proofs.judge.judge_files.Goals as goal

pub returns-in_ok-judge-in-Some-clause-found : goal.returns-in_ok-judge-in-Some-clause-found
returns-in_ok-judge-in-Some-clause-found g c =
    judged_there g.S.Stages.parts g.met.S.Stages.laws c.args.config.now c.args.stage c.args.bundle.now _ _ _ _ _
    (ap (option_map _) c.in-Some.is) c.in_ok-there.ensures.files
    (c.in_ok-judge-in-Some.ensures.found
    ∙ ap (g.S.Stages.parts.verdict c.args.config.now c.args.bundle.now) c.deref.ensures.value) refl

pub returns-in_ok-judge-in-Some-clause-passes : goal.returns-in_ok-judge-in-Some-clause-passes
returns-in_ok-judge-in-Some-clause-passes g c =
    let same = c.deref.ensures.value in
    told_there g.S.Stages.parts g.met.S.Stages.laws c.args.config.now c.args.bundle.now c.args.stage c.requires.stage
    _ _ _ _ _ (ap (option_map _) c.in-Some.is) c.in_ok-there.ensures.files
    (c.in_ok-judge-in-Some.ensures.found ∙ ap (g.S.Stages.parts.verdict c.args.config.now c.args.bundle.now) same)
    (subst (λ files. MakesAs (g.S.Stages.parts.placed c.args.config.now c.args.bundle.now.stage) (ids_of files)
    → IfNone c.in_ok-judge-in-Some.field-0 (g.S.Stages.parts.Satisfies c.args.config.now c.args.bundle.now files))
    same c.in_ok-judge-in-Some.ensures.passes) refl
