-- What is said later of the first keys is said.
use Rattle.plan_num.proofs.Common.{take, flat_map}
use Rattle.config_keys.specs.ReadSoFar.{said_item, SaysOn}
use Rattle.config_keys.proofs.said.Said.add.Given as goal

abbrev pub invariant-loop-key : goal.invariant-loop-key
invariant-loop-key l = SaysOn (flat_map (said_item l.later) (take l.key-index l.key-items))
    l.initial.self l.self
