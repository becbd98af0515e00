use Rattle.plan_num.proofs.Common.{◌≤◌, length}
use Rattle.propagation.specs.Problems.{Joins}
use Rattle.propagation.proofs.Canonical.{kept_told, kept_all}
use Rattle.propagation.proofs.waiting.kept_activities.Goals as goal

pub returns-clause-activities : goal.returns-clause-activities
returns-clause-activities c =
    kept_told c.args.problem.now c.args.kept.now c.rides.result.now c.changes.result.now c.rides.ensures.value
    c.changes.ensures.value
    (λ all. all.items) c.counted_activities.result c.counted_activities.ensures

pub returns-clause-ends : goal.returns-clause-ends
returns-clause-ends c =
    kept_all (λ at. Joins (length c.args.problem.now.events) at.step) c.args.problem.now c.args.kept.now
    c.rides.ensures.ends c.changes.ensures.ends
    (λ all. all.items) c.counted_activities.result (returns-clause-activities c)

pub returns-clause-ids : goal.returns-clause-ids
returns-clause-ids c =
    kept_all (λ at. at.id ≤ 500000) c.args.problem.now c.args.kept.now c.rides.ensures.ids c.changes.ensures.ids
    (λ all. all.items) c.counted_activities.result (returns-clause-activities c)
