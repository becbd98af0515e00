use Rattle.plan_num.proofs.Common.{arith, ◌-◌}
use Rattle.line_concepts.proofs.Walking.{last_turned}
use Rattle.line_concepts.proofs.region_walk.turn_last.Goals as goal

pub returns : goal.returns
returns c = λ others split are.
    last_turned c.args.splits.now.items others split c.index_mut.result.now (c.len-last.result - 1)
    (omega (arith, c.len-last.ensures, c.args.splits.now.ok)) c.index_mut.ensures.value are
