use Rattle.plan_num.proofs.Common.{◌∷◌, ◌∙◌, ap}
use Rattle.pesp.specs.Marks.{Tracked}
use Rattle.pesp.proofs.Changes.{branched_view}
use Rattle.pesp.proofs.time_sets.TimeSets.save.Goals as goal

pub returns : goal.returns
returns c =
    branched_view c.self.inside.sets c.self.inside.changes.items c.push.new.self.items c.args.branch
    c.in_ok-push.ensures.items
    ∙ ap (λ (tracked : Tracked). record {
      sets = tracked.sets;
      saved = record { sets = tracked.sets; branch = c.args.branch } ∷ tracked.saved;
    }) c.self.view_is
