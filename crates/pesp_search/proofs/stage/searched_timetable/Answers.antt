use Rattle.plan_num.proofs.Common.{sym, subst, err_from_is_err_and}
use Rattle.pesp.specs.Timetables.{IsProblem}
use Rattle.pesp_search.proofs.StageResults.{found_made, search_ended, stage_refused, steps_ended}
use Rattle.pesp_search.proofs.StageResults.{steps_found, steps_made, steps_refused, times_known}
use Rattle.pesp_search.proofs.TimetableReads.{is_problem}
use Rattle.pesp_search.proofs.stage.searched_timetable.Goals as goal

pub returns-in_err-pesp : goal.returns-in_err-pesp
returns-in_err-pesp g c =
    let p = err_from_is_err_and c.from_residual.result c.from_residual.ensures.1 in
    let bundle = c.args.bundle.now in
    let why = c.in_err-pesp.field-0.0 in
    rw (p.1, p.2) (record {
      made = stage_refused bundle why c.in_err-pesp.ensures.read;
      steps = steps_refused bundle c.args.steps.now c.tick.new.self why c.in_err-pesp.ensures.read
          c.tick.ensures;
    })

pub returns-in_err-found : goal.returns-in_err-found
returns-in_err-found g c =
    let p = err_from_is_err_and c.from_residual-in_err-found.result
    c.from_residual-in_err-found.ensures.1 in
    let bundle = c.args.bundle.now in
    let read = c.in_ok-pesp.ensures.read in
    let why = c.in_err-found.field-0.0 in
    rw (p.1, p.2) (record {
      made = search_ended bundle c.in_ok-pesp.pesp c.budget_of.result read.0 read.1
          c.budget_of.ensures why c.in_err-found.ensures.found;
      steps = steps_ended bundle c.in_ok-pesp.pesp c.budget_of.result read.0 read.1
          c.budget_of.ensures c.args.steps.now c.tick.new.self c.search_times.new.steps why
          c.tick.ensures c.in_err-found.ensures.steps;
    })

pub times_made-requires : goal.times_made-requires
times_made-requires g c =
    let read = c.in_ok-pesp.ensures.read in
    let sound = subst IsProblem (sym read.1)
    (is_problem c.args.bundle.now c.requires.stage c.requires.fits read.0) in
    let known = times_known c.budget_of.result c.in_ok-pesp.pesp c.in_ok-found.found sound
    c.in_ok-found.ensures.found in
    record { few = known.0; fit = known.1 }

pub returns-in_err-times_made-clause-steps : goal.returns-in_err-times_made-clause-steps
returns-in_err-times_made-clause-steps g c =
    let p = err_from_is_err_and c.from_residual-in_err-times_made.result
    c.from_residual-in_err-times_made.ensures.1 in
    let read = c.in_ok-pesp.ensures.read in
    rw (p.1, p.2) (steps_made c.args.bundle.now c.in_ok-pesp.pesp c.budget_of.result read.0 read.1
    c.budget_of.ensures c.in_ok-found.found c.in_ok-found.ensures.found c.args.steps.now c.tick.new.self
    c.search_times.new.steps c.tick.ensures c.in_ok-found.ensures.steps)

pub returns : goal.returns
returns g c =
    let bundle = c.args.bundle.now in
    let read = c.in_ok-pesp.ensures.read in
    let found = c.in_ok-found.found in
    record {
      made = found_made bundle c.in_ok-pesp.pesp c.budget_of.result read.0 read.1
          c.budget_of.ensures found c.in_ok-found.ensures.found c.in_ok-times_made.field-0
          c.in_ok-times_made.ensures;
      steps = steps_found bundle c.in_ok-pesp.pesp c.budget_of.result read.0 read.1
          c.budget_of.ensures found c.in_ok-found.ensures.found c.args.steps.now c.tick.new.self
          c.search_times.new.steps c.tick.ensures c.in_ok-found.ensures.steps;
    }
