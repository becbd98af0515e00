use Rattle.stage_chain.proofs.WritesMade.{joined_writes}
use Rattle.stage_chain.proofs.writes.writes_for.Goals as goal

pub returns : goal.returns
returns g c =
    joined_writes g.S.Stages.parts g.met.S.Stages.laws c.args.made.items _ _ _ _ c.deref.ensures.value
    c.in_ok-writes.ensures c.in_ok-removals.ensures c.in_ok-append.ensures.items
