use Rattle.stage_chain.proofs.Settling.{removals_told}
use Rattle.stage_chain.proofs.fresh.clear.Goals as goal

pub settle-requires-clause-wishes : goal.settle-requires-clause-wishes
settle-requires-clause-wishes g c =
    removals_told c.in_ok-wishes-in-Fresh.wishes.items c.in_ok-wishes-in-Fresh.ensures
