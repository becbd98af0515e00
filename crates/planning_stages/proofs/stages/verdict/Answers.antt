use Rattle.plan_num.proofs.Common.{sym, ◌∙◌}
use Rattle.giv_files.specs.declared.stage.Stage.TheVariants as stage
use Rattle.giv_files.proofs.Common.{ids_of}
use Rattle.planning_stages.specs.Planning.{planning, stage_model}
use Rattle.planning_stages.proofs.Laws.{passes_at}
use Rattle.planning_stages.proofs.PinnedPlaces.{concept_list, times_list}
use Rattle.planning_stages.proofs.stages.verdict.Goals as goal

pub returns-in-Concept-clause-passes : goal.returns-in-Concept-clause-passes
unfolding planning stage_model
returns-in-Concept-clause-passes c =
    passes_at c.args.config.now c.args.bundle.now c.args.there.now stage.Concept
    (sym c.in-Concept.is ∙ c.stage.ensures) c.judge_concept.result
    (concept_list c.args.config.now (ids_of c.args.there.now)) c.judge_concept.ensures.passes

pub returns-in-Timetable-clause-passes : goal.returns-in-Timetable-clause-passes
unfolding planning stage_model
returns-in-Timetable-clause-passes c =
    passes_at c.args.config.now c.args.bundle.now c.args.there.now stage.Timetable
    (sym c.in-Timetable.is ∙ c.stage.ensures) c.judge_timetable.result
    (times_list c.args.config.now (ids_of c.args.there.now)) c.judge_timetable.ensures.passes

pub returns-in-Disposition-clause-passes : goal.returns-in-Disposition-clause-passes
unfolding planning stage_model
returns-in-Disposition-clause-passes c =
    passes_at c.args.config.now c.args.bundle.now c.args.there.now stage.Disposition
    (sym c.in-Disposition.is ∙ c.stage.ensures) c.judge_disposition.result
    (λ makes. makes) c.judge_disposition.ensures.passes
