use Rattle.plan_num.proofs.Common.{arith, subst, sym, All, err_from_is_err_and}
use Rattle.tables.proofs.Common.{refused_without}
use Rattle.line_walks.specs.GivenCosts.{IsCost}
use Rattle.line_walks.proofs.CostRules.{line_missing_of_text, costs_given}
use Rattle.line_walks.proofs.SoundCosts.{costs_sound}
use Rattle.line_walks.proofs.given_costs.LineCosts.from_text.Goals as goal

pub returns-in_err-rows : goal.returns-in_err-rows
returns-in_err-rows c =
    let p = err_from_is_err_and c.from_residual.result c.from_residual.ensures.1 in grind (
      arith,
      refused_without,
    )

pub invariant_of-result : goal.invariant_of-result
invariant_of-result c =
    let pool = c.args.pool.now in
    let read = c.in_ok-rows.ensures in
    let made = costs_given pool c.args.text.now c.in_ok-rows.rows.items read.0 read.1
    c.in-Some.costs.items (rw (c.in-Some.is, c.deref.ensures.value) at c.in_ok-costs.ensures) in
    subst (All IsCost) (sym made.1) (costs_sound pool c.args.text.now made.0)

pub returns-in-Some : goal.returns-in-Some
returns-in-Some c =
    let read = c.in_ok-rows.ensures in
    costs_given c.args.pool.now c.args.text.now c.in_ok-rows.rows.items read.0 read.1
    c.in-Some.costs.items (rw (c.in-Some.is, c.deref.ensures.value) at c.in_ok-costs.ensures)

pub returns : goal.returns
returns c =
    let read = c.in_ok-rows.ensures in
    line_missing_of_text c.args.pool.now c.args.text.now c.in_ok-rows.rows.items read.0 read.1
    (rw (c.in-None.is, c.deref.ensures.value) at c.in_ok-costs.ensures)
