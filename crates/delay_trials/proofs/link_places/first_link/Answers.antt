use Rattle.plan_num.proofs.Common.{ltb, rules, IsPartitionPoint-from_clause, IsPartitionedBy-ltb}
use Rattle.delay_trials.proofs.EndsOfChanges.{first_is}
use Rattle.delay_trials.proofs.link_places.first_link.Goals as goal

pub returns : goal.returns
returns c =
    first_is (λ link. link.rank) c.args.links.now c.args.rank c.partition_point.result c.partition_point.ensures.bound
    (IsPartitionPoint-from_clause (λ link. ltb link.rank c.args.rank) c.args.links.now c.partition_point.result
    c.partition_point.ensures.partitioned (IsPartitionedBy-ltb
    (λ link. link.rank) c.args.links.now c.args.rank c.requires)
    (λ a r q k. search rules))
