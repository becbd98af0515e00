use Rattle.plan_num.proofs.Common.{ltb, rules, IsPartitionPoint-from_clause, IsPartitionedBy-ltb}
use Rattle.delay_trials.proofs.EndsOfChanges.{first_is}
use Rattle.delay_trials.proofs.ends.first_end.Goals as goal

pub returns : goal.returns
returns c =
    first_is (λ end. end.event) c.args.ends.now c.args.event c.partition_point.result c.partition_point.ensures.bound
    (IsPartitionPoint-from_clause (λ end. ltb end.event c.args.event) c.args.ends.now c.partition_point.result
    c.partition_point.ensures.partitioned (IsPartitionedBy-ltb
    (λ end. end.event) c.args.ends.now c.args.event c.requires)
    (λ a r q k. search rules))
