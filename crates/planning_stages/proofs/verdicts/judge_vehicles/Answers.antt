use Rattle.plan_num.proofs.Common.{cond, IfNone, IfOk, subst, sym, ◌∙◌}
use Rattle.giv_files.specs.declared.stage.Stage.TheVariants as stage
use Rattle.giv_files.proofs.Common.{MakesAs, ids_of}
use Rattle.planning_stages.specs.Planning.{schedule_judged}
use Rattle.planning_stages.proofs.verdicts.judge_vehicles.Goals as goal

pub returns-then-is_pinned-clause-passes : goal.returns-then-is_pinned-clause-passes
returns-then-is_pinned-clause-passes c =
    subst (λ pinned. MakesAs (cond pinned stage.PinnedVehicles stage.Vehicles) (ids_of c.args.there.now)
    → IfOk c.bare_verdict.result
    (λ found. IfNone found ((schedule_judged pinned).Satisfies c.args.bundle.now c.args.there.now)))
    (sym (sym c.is_pinned.ensures ∙ c.if-is_pinned.true)) c.bare_verdict.ensures.passes

pub returns-else-is_pinned-clause-passes : goal.returns-else-is_pinned-clause-passes
returns-else-is_pinned-clause-passes c =
    subst (λ pinned. MakesAs (cond pinned stage.PinnedVehicles stage.Vehicles) (ids_of c.args.there.now)
    → IfOk c.schedule_verdict.result
    (λ found. IfNone found ((schedule_judged pinned).Satisfies c.args.bundle.now c.args.there.now)))
    (sym (sym c.is_pinned.ensures ∙ c.if-is_pinned.false)) c.schedule_verdict.ensures.passes
