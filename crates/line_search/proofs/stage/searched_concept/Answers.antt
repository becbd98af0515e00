use Rattle.plan_num.proofs.Common.{◌≡◌, ◌∙◌, ap, arith, err_from_is_err_and}
use Rattle.giv_files.specs.declared.key.Key.TheVariants as key
use Rattle.giv_files.proofs.Common.{amount}
use Rattle.line_search.specs.ConceptStage.{budget_of}
use Rattle.line_search.proofs.StageResults.{stage_found, stage_refused, steps_listed, steps_refused}
use Rattle.line_search.proofs.StageResults.{steps_stopped}
use Rattle.line_search.proofs.stage.searched_concept.Goals as goal

pub returns-in_err-problem-clause-made : goal.returns-in_err-problem-clause-made
returns-in_err-problem-clause-made g c =
    let p = err_from_is_err_and c.from_residual.result c.from_residual.ensures.1 in
    rw (p.1, p.2) (stage_refused c.args.bundle.now c.in_err-problem.field-0.0 c.in_err-problem.ensures)

pub returns-in_err-problem-clause-steps : goal.returns-in_err-problem-clause-steps
returns-in_err-problem-clause-steps g c =
    let p = err_from_is_err_and c.from_residual.result c.from_residual.ensures.1 in grind (
      arith,
      steps_refused,
    )

pub returns-in_err-found-clause-steps : goal.returns-in_err-found-clause-steps
returns-in_err-found-clause-steps g c =
    let p = err_from_is_err_and c.from_residual-in_err-found.result
    c.from_residual-in_err-found.ensures.1 in
    let budget_is : c.amount-budget.result ≡ budget_of c.args.bundle.now =
    c.amount-budget.ensures.amount ∙ ap (λ settings. amount settings key.ConceptBudget) c.settings.ensures in
    let read = c.in_ok-problem.ensures in
    let stopped = c.in_err-found.ensures.err in
    rw (p.1, p.2) (steps_stopped c.args.bundle.now c.args.steps.now c.search_concept.new.steps
    c.in_ok-problem.problem c.amount-budget.result read.0 read.1 budget_is
    (omega (arith, c.tick.ensures, stopped.0)) (omega (arith, c.tick.ensures, stopped.1)))

pub returns-clause-made : goal.returns-clause-made
returns-clause-made g c =
    let budget_is : c.amount-budget.result ≡ budget_of c.args.bundle.now = grind arith in
    grind (arith, stage_found)

pub returns-clause-steps : goal.returns-clause-steps
returns-clause-steps g c =
    let budget_is : c.amount-budget.result ≡ budget_of c.args.bundle.now = grind arith in
    grind (arith, steps_listed)
