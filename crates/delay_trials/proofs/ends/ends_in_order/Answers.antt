use Rattle.plan_num.proofs.Common.{rules, IsNonDecreasingBy-from_sort_by_key}
use Rattle.delay_trials.proofs.EndsOfChanges.{ends_moved}
use Rattle.delay_trials.proofs.ends.ends_in_order.Goals as goal

pub returns-clause-ends : goal.returns-clause-ends
returns-clause-ends c = ends_moved c.args.changes.now _ _ c.in_ok-ends.ensures
    c.sort_unstable_by_key.ensures.permutation

pub returns-clause-in_order : goal.returns-clause-in_order
returns-clause-in_order c =
    IsNonDecreasingBy-from_sort_by_key (λ end. end.event) _ c.sort_unstable_by_key.ensures.sorted
    (λ a r q k. search rules)
