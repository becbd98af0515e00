use Rattle.stage_chain.proofs.Settling.{wishes_told}
use Rattle.stage_chain.proofs.run.finish.Goals as goal

pub settle-requires-clause-wishes : goal.settle-requires-clause-wishes
settle-requires-clause-wishes g c =
    wishes_told g.S.Stages.parts g.met.S.Stages.laws c.in_ok-wishes.wishes.items _ c.args.progress.files
    c.in_ok-wishes.ensures c.into_parts-made.ensures.files c.requires.files
