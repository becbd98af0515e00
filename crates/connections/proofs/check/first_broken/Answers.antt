use Rattle.plan_num.proofs.Common.{arith, sym}
use Rattle.connections.proofs.FirstRules.{is_journey_first, is_last, is_start_first, is_step_first}
use Rattle.connections.proofs.Passing.{proves_by}
use Rattle.connections.proofs.check.first_broken.Goals as goal

pub returns-then-breaks_journey-clause-first : goal.returns-then-breaks_journey-clause-first
returns-then-breaks_journey-clause-first c =
    is_journey_first c.args.net.now c.args.query.now.from c.args.query.now.to c.args.query.now.start
    c.args.found.now (sym c.if-breaks_journey.ensures.broken)

pub returns-then-misses_start-clause-first : goal.returns-then-misses_start-clause-first
returns-then-misses_start-clause-first c =
    is_start_first c.args.net.now c.args.query.now.from c.args.query.now.to c.args.query.now.start
    c.args.found.now (sym c.if-breaks_journey.ensures.broken) (sym c.if-misses_start.ensures)

pub returns-then-misses_step-clause-first : goal.returns-then-misses_step-clause-first
returns-then-misses_step-clause-first c =
    is_step_first c.args.net.now c.args.query.now.from c.args.query.now.to c.args.query.now.start
    c.args.found.now (sym c.if-breaks_journey.ensures.broken) (sym c.if-misses_start.ensures)
    (sym c.if-misses_step.ensures.missed)

pub returns : goal.returns
returns c =
    let net = c.args.net.now in grind (arith, is_last, proves_by)
