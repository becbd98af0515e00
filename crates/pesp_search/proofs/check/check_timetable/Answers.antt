use Rattle.plan_num.proofs.Common.{◌∙◌, ap}
use Rattle.pesp_search.specs.Judged.{first_broken_rule}
use Rattle.pesp_search.specs.TimetableStage.{problem_in}
use Rattle.pesp_search.proofs.JudgedTimes.{passes_by}
use Rattle.pesp_search.proofs.TimetableReads.{is_problem}
use Rattle.pesp_search.proofs.check.check_timetable.Goals as goal

pub returns-clause-passes : goal.returns-clause-passes
returns-clause-passes c =
    let bundle = c.args.bundle.now in
    let sound = is_problem bundle c.requires.stage c.requires.fits c.in_ok-pesp.ensures.read.0 in
    passes_by (problem_in bundle) sound c.args.times.now c.in_ok-first_fault.field-0
    (c.in_ok-first_fault.ensures
    ∙ ap (λ problem. first_broken_rule problem c.args.times.now) c.in_ok-pesp.ensures.read.1)
