use Rattle.plan_num.proofs.Common.{◌≡◌, true, ◌∷◌, length, sym, subst}
use Rattle.waiting_decisions.specs.Paths.{IsPath, region_in}
use Rattle.waiting_decisions.specs.Regions.{is_free_at}
use Rattle.waiting_decisions.proofs.PathFacts.{changed_or, free_there, kept_on}
use Rattle.waiting_decisions.proofs.path.Path.keep.Goals as goal

pub keep-requires-clause-there : goal.keep-requires-clause-there
keep-requires-clause-there c =
    (free_there (length c.self.inside.trial.problem.changes) c.self.inside.trial.decided c.args.change
    (subst (λ path. is_free_at (region_in path) c.args.change ≡ true) (sym c.self.view_is) c.requires)).0

pub keep-requires-clause-open_yet : goal.keep-requires-clause-open_yet
keep-requires-clause-open_yet c =
    (free_there (length c.self.inside.trial.problem.changes) c.self.inside.trial.decided c.args.change
    (subst (λ path. is_free_at (region_in path) c.args.change ≡ true) (sym c.self.view_is) c.requires)).1

pub invariant_of-self : goal.invariant_of-self
invariant_of-self c =
    let free = subst (λ path. is_free_at (region_in path) c.args.change ≡ true) (sym c.self.view_is) c.requires in
    changed_or (λ path. IsPath path c.self.inside.dropped.items) c.keep.result c.self.inside.trial
    (record c.self.inside.trial {
      decided = record {
        change = c.args.change;
        kept = true;
      } ∷ c.self.inside.trial.decided;
    })
    c.keep.new.self c.keep.ensures.ok c.keep.ensures.err
    (kept_on c.self.inside.trial c.self.inside.dropped.items c.self.invariant c.args.change free) c.self.invariant
