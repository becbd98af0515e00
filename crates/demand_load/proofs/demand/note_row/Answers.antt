use Rattle.plan_num.proofs.Common.{arith, ◌+◌, slice_get, ap, sym, ◌∙◌}
use Rattle.demand_paths.specs.Wanted.{everyone, goes_over, sum_between}
use Rattle.demand_load.proofs.DemandRows.{unknown, known, no_left, no_right, no_path, nobody_fits, row_fits, same_load}
use Rattle.demand_load.proofs.demand.note_row.Goals as goal

pub returns-in_default-clause-why : goal.returns-in_default-clause-why
returns-in_default-clause-why c =
    let row = c.args.row.now in grind (arith, no_left, unknown)

pub returns-in_default-stop_at-clause-why : goal.returns-in_default-stop_at-clause-why
returns-in_default-stop_at-clause-why c =
    let stops = c.args.network.now.stops in grind (arith, no_right, known, unknown)

pub returns-then-not-has_customers-clause-why : goal.returns-then-not-has_customers-clause-why
returns-then-not-has_customers-clause-why c =
    sym (ap (λ whys. slice_get whys 0) (nobody_fits c.args.network.now c.args.row.now
    c.in-Some.left c.in-Some-stop_at.right (sym c.stop_at.ensures ∙ c.in-Some.is)
    (sym c.stop_at-2.ensures ∙ c.in-Some-stop_at.is)
    (sym c.has_customers.ensures ∙ c.if-not-has_customers.true)))

pub returns-then-not-branch-clause-why : goal.returns-then-not-branch-clause-why
returns-then-not-branch-clause-why c =
    sym (no_path c.args.network.now c.args.row.now c.in-Some.left c.in-Some-stop_at.right
    (sym c.stop_at.ensures ∙ c.in-Some.is) (sym c.stop_at-2.ensures ∙ c.in-Some-stop_at.is)
    (sym c.has_customers.ensures ∙ c.if-not-has_customers.false)
    (sym c.in_ok-joins.ensures.joined ∙ c.if-not-branch.true))

pub returns-clause-why : goal.returns-clause-why
returns-clause-why c =
    sym (ap (λ whys. slice_get whys 0) (row_fits c.args.network.now c.args.row.now c.in-Some.left
    c.in-Some-stop_at.right (sym c.stop_at.ensures ∙ c.in-Some.is)
    (sym c.stop_at-2.ensures ∙ c.in-Some-stop_at.is)
    (sym c.in_ok-joins.ensures.joined ∙ c.if-not-branch.false)))

pub returns-clause-all : goal.returns-clause-all
returns-clause-all c =
    c.in_ok-add.ensures.added (λ _. everyone)
    ∙ ap (λ n. sum_between (λ _. everyone) 0 c.args.wanted.now + n) c.amount.ensures

pub returns-clause-added : goal.returns-clause-added
returns-clause-added c =
    λ index.
    let passes = goes_over c.args.network.now index in grind (arith, same_load)
