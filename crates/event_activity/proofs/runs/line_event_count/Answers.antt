use Rattle.plan_num.proofs.Common.{ap, arith, length}
use Rattle.event_activity.proofs.LineEvents.{told_of, line_few, line_counted}
use Rattle.event_activity.proofs.runs.line_event_count.Goals as goal

pub overflow_mul-result-2 : goal.overflow_mul-result-2
overflow_mul-result-2 c =
    let lines = c.args.pool.now in
    let edges = told_of (λ at. at.edges) lines c.args.line _ c.requires.line c.edges.ensures in
    let often = told_of (λ at. at.frequency) lines c.args.line _ c.requires.line
    c.frequency.ensures in
    omega (
      arith,
      line_few c.args.network.now lines c.args.line _ _ c.requires.served
          c.requires.line (ap length edges) often,
    )

pub returns-clause-count : goal.returns-clause-count
returns-clause-count c =
    let lines = c.args.pool.now in
    let edges = told_of (λ at. at.edges) lines c.args.line _ c.requires.line c.edges.ensures in
    let often = told_of (λ at. at.frequency) lines c.args.line _ c.requires.line
    c.frequency.ensures in
    line_counted c.args.network.now lines c.args.line _ _ (ap length edges) often

pub returns-clause-few : goal.returns-clause-few
returns-clause-few c =
    let lines = c.args.pool.now in
    let edges = told_of (λ at. at.edges) lines c.args.line _ c.requires.line c.edges.ensures in
    let often = told_of (λ at. at.frequency) lines c.args.line _ c.requires.line
    c.frequency.ensures in
    line_few c.args.network.now lines c.args.line _ _ c.requires.served c.requires.line
    (ap length edges) often
