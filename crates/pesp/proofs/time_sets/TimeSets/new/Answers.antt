use Rattle.plan_num.proofs.Common.{◌∙◌, ap, reverse}
use Rattle.pesp.specs.Marks.{saved_by}
use Rattle.pesp.proofs.Changes.{none_saved, tracked}
use Rattle.pesp.proofs.time_sets.TimeSets.new.Goals as goal

pub returns : goal.returns
returns c =
    ap (λ changes. tracked c.args.sets (saved_by c.args.sets (reverse changes))) c.new.ensures.items
    ∙ ap (tracked c.args.sets) (none_saved c.args.sets)
