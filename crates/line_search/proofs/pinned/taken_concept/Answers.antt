use Rattle.plan_num.proofs.Common.{arith, err_from_is_err_and}
use Rattle.line_search.proofs.PinnedCalls.{concept_refused, concept_taken, problem_refused}
use Rattle.line_search.proofs.pinned.taken_concept.Goals as goal

pub returns-in_err-problem : goal.returns-in_err-problem
returns-in_err-problem c =
    let p = err_from_is_err_and c.from_residual.result c.from_residual.ensures.1 in grind (
      arith,
      problem_refused,
    )

pub returns-in_err-frequencies : goal.returns-in_err-frequencies
returns-in_err-frequencies c =
    let p = err_from_is_err_and c.from_residual-in_err-frequencies.result
    c.from_residual-in_err-frequencies.ensures.1 in grind (arith, concept_refused)

pub returns : goal.returns
returns c =
    let read = c.in_ok-problem.ensures in
    let given = c.in_ok-frequencies.ensures.read in
    concept_taken c.args.bundle.now c.in_ok-problem.problem read.0 read.1 c.input.result.now
    c.input.ensures c.in_ok-frequencies.frequencies.items given.0 given.1 c.input-2.result.now
    c.input-2.ensures c.in_ok-concept_made.field-0 c.in_ok-concept_made.ensures
