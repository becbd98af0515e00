use Rattle.plan_num.proofs.Common.{◌∙◌, ap, arith, drop, length, subst, sym, reverse}
use Rattle.delay_trials.specs.OnTrial.{GoesBack, IsTaken, TrialTimes, decided_in}
use Rattle.propagation.proofs.Common.{DelayProblem}
use Rattle.delay_trials.specs.Trials.{TrialParts}
use Rattle.delay_trials.proofs.DecisionsTakenBack.{last_there, taken_back, undone_problem}
use Rattle.delay_trials.proofs.TrialFacts.{kept_size, reversed}
use Rattle.delay_trials.proofs.trial.Trial.take_back.Goals as goal

pub set_open-requires : goal.set_open-requires
set_open-requires c =
    let all = c.self.inside.times in let last = c.in_ok-last.last in let before = c.pop.new.self.items in
    let told = subst (λ taken. IsTaken all taken c.self.inside.kept.items)
    (ap reverse c.in_ok-last.ensures.items ∙ reversed before last) c.self.invariant in
    omega (
      arith,
      last_there all last (reverse before) c.self.inside.kept.items told,
      ap (λ (p : DelayProblem). length p.changes)
          (undone_problem all last (reverse before) c.self.inside.kept.items told c.go_back.new.times _
          c.go_back.ensures),
    )

pub set_at-requires : goal.set_at-requires
set_at-requires c =
    let all = c.self.inside.times in let last = c.in_ok-last.last in let before = c.pop.new.self.items in
    let told = subst (λ taken. IsTaken all taken c.self.inside.kept.items)
    (ap reverse c.in_ok-last.ensures.items ∙ reversed before last) c.self.invariant in
    omega (
      arith,
      last_there all last (reverse before) c.self.inside.kept.items told,
      kept_size all.problem _ c.self.inside.kept.items all.open_yet all.times c.self.invariant.trial,
    )

pub invariant_of-self-2 : goal.invariant_of-self-2
invariant_of-self-2 c =
    let all = c.self.inside.times in let last = c.in_ok-last.last in let before = c.pop.new.self.items in
    let told = subst (λ taken. IsTaken all taken c.self.inside.kept.items)
    (ap reverse c.in_ok-last.ensures.items ∙ reversed before last) c.self.invariant in
    taken_back all last (reverse before) c.self.inside.kept.items told
    c.go_back.new.times c.set_open.new.self c.set_at.new.flags.items
    (subst (λ kept. GoesBack last kept all c.go_back.new.times) c.deref.ensures.value c.go_back.ensures)
    c.set_open.ensures c.set_at.ensures

pub returns-clause-rest : goal.returns-clause-rest
returns-clause-rest c =
    let all = c.self.inside.times in let last = c.in_ok-last.last in let before = c.pop.new.self.items in
    let parts = ap reverse c.in_ok-last.ensures.items ∙ reversed before last in
    let told = subst (λ taken. IsTaken all taken c.self.inside.kept.items) parts c.self.invariant in
    let problem_is = ap (λ (t : TrialTimes). t.problem) c.set_open.ensures
    ∙ undone_problem all last (reverse before) c.self.inside.kept.items told c.go_back.new.times _ c.go_back.ensures in
    (λ i. record { problem = problem_is i; decided = ap (λ taken. drop 1 (decided_in taken)) (sym parts) i })
    ∙ ap (λ (t : TrialParts). record { problem = t.problem; decided = drop 1 t.decided }) c.self.view_is
