use Rattle.plan_num.proofs.Common.{◌≡◌, true, length, sym, subst}
use Rattle.waiting_decisions.specs.Paths.{IsPath, region_in}
use Rattle.waiting_decisions.specs.Regions.{is_free_at}
use Rattle.waiting_decisions.proofs.PathFacts.{free_there, dropped_on}
use Rattle.waiting_decisions.proofs.path.Path.leave_out.Goals as goal

pub leave_out-requires-clause-there : goal.leave_out-requires-clause-there
leave_out-requires-clause-there c =
    (free_there (length c.self.inside.trial.problem.changes) c.self.inside.trial.decided c.args.change
    (subst (λ path. is_free_at (region_in path) c.args.change ≡ true) (sym c.self.view_is) c.requires)).0

pub leave_out-requires-clause-open_yet : goal.leave_out-requires-clause-open_yet
leave_out-requires-clause-open_yet c =
    (free_there (length c.self.inside.trial.problem.changes) c.self.inside.trial.decided c.args.change
    (subst (λ path. is_free_at (region_in path) c.args.change ≡ true) (sym c.self.view_is) c.requires)).1

pub invariant_of-self-in-Ok : goal.invariant_of-self-in-Ok
invariant_of-self-in-Ok c =
    let free = subst (λ path. is_free_at (region_in path) c.args.change ≡ true) (sym c.self.view_is) c.requires in
    subst (λ path. IsPath path c.push.new.self.items) (sym c.in-Ok.ensures.ok)
    (subst (IsPath _) (sym c.in_ok-push.ensures.items)
    (dropped_on c.self.inside.trial c.self.inside.dropped.items c.self.invariant c.args.change free))
