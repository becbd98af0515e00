use Rattle.plan_num.proofs.Common.{◌≡◌, ◌∙◌, length, not, false, ap, sym, subst, arith, le-ltb}
use Rattle.waiting_decisions.specs.Paths.{region_in}
use Rattle.waiting_decisions.specs.Regions.{is_free_at}
use Rattle.waiting_decisions.proofs.PathFacts.{free_is, not_free}
use Rattle.waiting_decisions.proofs.path.Path.is_free.Goals as goal

pub returns-then-change-change_count : goal.returns-then-change-change_count
returns-then-change-change_count c =
    subst (λ path. not c.is_decided.result ≡ is_free_at (region_in path) c.args.change) c.self.view_is
    (ap not c.is_decided.ensures
    ∙ sym (free_is (length c.self.inside.trial.problem.changes) c.self.inside.trial.decided c.args.change
    (omega (arith, c.if-change-change_count.true, c.change_count.ensures.count))))

pub returns-else-change-change_count : goal.returns-else-change-change_count
returns-else-change-change_count c =
    le-ltb c.args.change c.change_count.result c.if-change-change_count.false
    ∙ subst (λ path. false ≡ is_free_at (region_in path) c.args.change) c.self.view_is
    (sym (not_free (length c.self.inside.trial.problem.changes) c.self.inside.trial.decided c.args.change
    (omega (arith, c.if-change-change_count.false, c.change_count.ensures.count))))
