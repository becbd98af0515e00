use Rattle.plan_num.proofs.Common.{length, refl, subst}
use Rattle.waiting_decisions.specs.Searches.{Splits, best_in}
use Rattle.waiting_decisions.proofs.Turns.{split_done}
use Rattle.waiting_decisions.proofs.search.Search.split.Goals as goal

pub returns : goal.returns
returns c = (
  refl,
  subst (λ before. Splits before (record {
    path = c.keep.new.self;
    nodes = c.push.new.self;
    best = best_in (length c.keep.new.self.problem.changes) c.self.inside.best;
  }) c.args.change) c.self.view_is
      (split_done c.self.inside.path c.self.inside.tree c.self.inside.best c.args.change c.keep.new.self c.push.new.self
      c.in_ok-keep.ensures c.in_ok-push.ensures.ok),
)
