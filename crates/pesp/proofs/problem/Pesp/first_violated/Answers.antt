use Rattle.plan_num.proofs.Common.{subst, ap, ◌∙◌}
use Rattle.pesp.specs.Timetables.{IsProblem}
use Rattle.pesp.proofs.FirstBroken.{found_in, first_is, none_is}
use Rattle.pesp.proofs.problem.Pesp.first_violated.Goals as goal

pub returns-clause-value : goal.returns-clause-value
returns-clause-value c =
    found_in c.args.self.now c.args.times.now c.self.inside.period c.deref.result.now
    c.first_broken.result
    (ap (λ problem. problem.period) c.self.view_is)
    (c.deref.ensures.value ∙ ap (λ problem. problem.activities) c.self.view_is)
    c.first_broken.ensures

pub returns-clause-first : goal.returns-clause-first
returns-clause-first c =
    first_is c.args.self.now c.args.times.now (subst IsProblem c.self.view_is c.self.invariant)
    c.requires.each c.requires.within c.first_broken.result (returns-clause-value c)

pub returns-clause-feasible : goal.returns-clause-feasible
returns-clause-feasible c =
    none_is c.args.self.now c.args.times.now (subst IsProblem c.self.view_is c.self.invariant)
    c.requires.each c.requires.within c.first_broken.result (returns-clause-first c)
