use Rattle.plan_num.proofs.Common.{◌≡◌, ◌∙◌, ◌∷◌, ◌<◌, false, true, length, ap, sym, subst, arith}
use Rattle.plan_num.proofs.Common.{reverse}
use Rattle.delay_trials.specs.OnTrial.{IsTaken}
use Rattle.delay_trials.specs.Trials.{TrialParts, is_decided}
use Rattle.delay_trials.proofs.DecisionsTakenBack.{dropped_taken}
use Rattle.delay_trials.proofs.TrialFacts.{reversed}
use Rattle.delay_trials.proofs.trial.Trial.leave_out.Goals as goal

pub invariant_of-self-2 : goal.invariant_of-self-2
invariant_of-self-2 c =
    let all = c.self.inside.times in let taken = reverse c.self.inside.taken.items in
    let there : c.args.change < length all.problem.changes =
    omega (arith, c.requires.there, ap (λ (t : TrialParts). length t.problem.changes) c.self.view_is) in
    let none = subst (λ (t : TrialParts). is_decided t.decided c.args.change ≡ false)
    (sym c.self.view_is) c.requires.open_yet in
    subst (λ all. IsTaken c.set_open.new.self all c.self.inside.kept.items)
    (sym (ap reverse c.in_ok-push.ensures.items ∙ reversed c.self.inside.taken.items c.new.result
    ∙ (λ i. (c.new.ensures
    ∙ (λ j. record {
      decided = record { change = c.args.change; kept = false };
      moved = c.moved-moved.ensures j;
      is_noted = true;
    })) i ∷ taken)))
    (dropped_taken all taken c.self.inside.kept.items c.self.invariant c.args.change there none
    c.set_open.new.self c.set_open.ensures)
