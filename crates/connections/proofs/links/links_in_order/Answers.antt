use Rattle.plan_num.proofs.Common.{rules, IsNonDecreasingBy-from_sort_by_key}
use Rattle.connections.proofs.links.links_in_order.Goals as goal

pub returns-clause-in_order : goal.returns-clause-in_order
returns-clause-in_order c =
    IsNonDecreasingBy-from_sort_by_key (λ link. link.rank) _ c.sort_unstable_by_key.ensures.sorted
    (λ a r q k. search rules)
