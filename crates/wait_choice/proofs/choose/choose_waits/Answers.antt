use Rattle.plan_num.proofs.Common.{◌≡◌, ◌∙◌, ◌+◌, Some, ap, sym, subst, arith, err_from_is_err_and}
use Rattle.tables.proofs.Common.{UnlessFault}
use Rattle.giv_files.proofs.Common.{TakesSteps}
use Rattle.waiting_decisions.specs.Budgets.{entries_listed}
use Rattle.wait_choice.specs.ChoiceStage.{IsUnspent, IsWhole, waits_in, waits_refusals, waits_work}
use Rattle.waiting_decisions.specs.Listings.{listing}
use Rattle.wait_choice.proofs.StageResults.{end_chosen, end_finds, end_steps, end_whole, few_steps, inputs_refused}
use Rattle.wait_choice.proofs.StageResults.{inputs_steps}
use Rattle.wait_choice.proofs.Unspent.{refused_unspent, refused_whole}
use Rattle.wait_choice.proofs.choose.choose_waits.Goals as goal

pub returns-in_err-problem : goal.returns-in_err-problem
returns-in_err-problem g c =
    let p = err_from_is_err_and c.from_residual.result c.from_residual.ensures.1 in
    let bundle = c.args.bundle.now in
    let fault = c.in_err-problem.field-0.0 in
    let read = c.in_err-problem.ensures.read in
    rw (p.1, p.2) (record {
      chosen = inputs_refused bundle c.args.penalty c.args.budget fault read;
      right = tt;
      listed = tt;
      finds = λ enough. refused_unspent bundle fault read;
      whole = λ enough. refused_whole bundle fault read;
      steps = inputs_steps bundle c.args.penalty c.args.budget _ _ fault read c.tick.ensures;
    })

pub returns-in_err-found-clause-steps : goal.returns-in_err-found-clause-steps
returns-in_err-found-clause-steps g c =
    let p = err_from_is_err_and c.from_residual-in_err-found.result c.from_residual-in_err-found.ensures.1 in
    let read = c.in_ok-problem.ensures.read in
    let same = ap (λ p. entries_listed c.args.budget (listing p c.args.penalty)) read.1 in
    let few = c.in_err-found.ensures.err in
    rw (p.1, p.2) (few_steps c.args.bundle.now c.args.penalty c.args.budget _ _ read.0
    (omega (arith, few.0, c.tick.ensures)) (omega (arith, few.1, c.tick.ensures, same)))

pub returns-clause-chosen : goal.returns-clause-chosen
returns-clause-chosen g c =
    let read = c.in_ok-problem.ensures.read in
    subst (UnlessFault (waits_refusals c.args.bundle.now c.args.penalty c.args.budget)
    (λ waits. waits_in c.args.bundle.now c.args.penalty c.args.budget ≡ Some waits)) (sym c.found_or_spent.ensures)
    (end_chosen c.args.bundle.now c.args.penalty c.args.budget c.in_ok-problem.problem read.0 read.1 c.in_ok-found.found
    c.in_ok-found.ensures.found)

pub returns-clause-finds : goal.returns-clause-finds
returns-clause-finds g c enough =
    let read = c.in_ok-problem.ensures.read in
    subst IsUnspent (sym c.found_or_spent.ensures)
    (end_finds c.args.bundle.now c.args.penalty c.args.budget c.in_ok-problem.problem read.0 read.1 c.in_ok-found.found
    c.in_ok-found.ensures.found enough)

pub returns-clause-whole : goal.returns-clause-whole
returns-clause-whole g c enough =
    let read = c.in_ok-problem.ensures.read in
    subst IsWhole (sym c.found_or_spent.ensures)
    (end_whole c.args.bundle.now c.args.penalty c.args.budget c.in_ok-problem.problem read.0 read.1 c.in_ok-found.found
    c.in_ok-found.ensures.found enough)

pub returns-clause-steps : goal.returns-clause-steps
returns-clause-steps g c =
    let read = c.in_ok-problem.ensures.read in
    subst (TakesSteps (waits_work c.args.bundle.now c.args.penalty c.args.budget) _ _) (sym c.found_or_spent.ensures)
    (end_steps c.args.bundle.now c.args.penalty c.args.budget c.in_ok-problem.problem read.0 read.1 c.in_ok-found.found
    c.in_ok-found.ensures.found _ _
    (c.in_ok-found.ensures.steps ∙ ap (λ n. n + entries_listed c.args.budget
    (listing c.in_ok-problem.problem c.args.penalty)) c.tick.ensures))
