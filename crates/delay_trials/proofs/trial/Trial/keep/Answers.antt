use Rattle.plan_num.proofs.Common.{◌≡◌, ◌∙◌, ◌∷◌, ◌<◌, ◌-◌, [], false, length, slice_set, take}
use Rattle.plan_num.proofs.Common.{true, ap, sym, subst, arith, reverse, take-append_seam}
use Rattle.plan_num.proofs.Common.{length-set}
use Rattle.std.specs.Vec.{vec_len}
use Rattle.propagation.proofs.Common.{least_times, DelayProblem, chosen_changes}
use Rattle.delay_trials.specs.OnTrial.{DropsNotes, IsTaken}
use Rattle.delay_trials.specs.Trials.{TrialParts, is_decided}
use Rattle.delay_trials.proofs.DecisionsTakenBack.{kept_not, kept_taken, settles_from, taken_still}
use Rattle.delay_trials.proofs.TrialFacts.{kept_size, reversed}
use Rattle.delay_trials.proofs.trial.Trial.keep.Goals as goal

pub set_at-requires : goal.set_at-requires
set_at-requires c =
    let all = c.self.inside.times in
    let there : c.args.change < length all.problem.changes =
    omega (arith, c.requires.there, ap (λ (t : TrialParts). length t.problem.changes) c.self.view_is) in
    omega (arith, there, kept_size all.problem _ c.self.inside.kept.items all.open_yet all.times c.self.invariant.trial)

pub set_at-requires-in-Err : goal.set_at-requires-in-Err
set_at-requires-in-Err c =
    let all = c.self.inside.times in
    let there : c.args.change < length all.problem.changes =
    omega (arith, c.requires.there, ap (λ (t : TrialParts). length t.problem.changes) c.self.view_is) in
    omega (
      arith,
      there,
      kept_size all.problem _ c.self.inside.kept.items all.open_yet all.times c.self.invariant.trial,
      ap length c.set_at.ensures,
      length-set c.self.inside.kept.items c.args.change true,
    )

pub settle_from-requires : goal.settle_from-requires
settle_from-requires c =
    let all = c.self.inside.times in let taken = reverse c.self.inside.taken.items in
    let there : c.args.change < length all.problem.changes =
    omega (arith, c.requires.there, ap (λ (t : TrialParts). length t.problem.changes) c.self.view_is) in
    let none = subst (λ (t : TrialParts). is_decided t.decided c.args.change ≡ false)
    (sym c.self.view_is) c.requires.open_yet in
    settles_from all taken c.self.inside.kept.items c.self.invariant c.args.change there none
    c.set_open.new.self _ c.set_open.ensures c.deref.result.now (c.deref.ensures.value ∙ c.set_at.ensures)
    c.changes.result.now (c.changes.ensures.value ∙ ap (λ (p : DelayProblem). p.changes) c.problem.ensures.value)

pub invariant_of-self-in-Ok : goal.invariant_of-self-in-Ok
invariant_of-self-in-Ok c =
    let all = c.self.inside.times in let taken = reverse c.self.inside.taken.items in
    let there : c.args.change < length all.problem.changes =
    omega (arith, c.requires.there, ap (λ (t : TrialParts). length t.problem.changes) c.self.view_is) in
    let none = subst (λ (t : TrialParts). is_decided t.decided c.args.change ≡ false)
    (sym c.self.view_is) c.requires.open_yet in
    subst (λ all. IsTaken c.drop_notes.new.times all c.set_at.new.flags.items)
    (sym (ap reverse c.in_ok-push.ensures.items ∙ reversed c.self.inside.taken.items c.new.result
    ∙ (λ i. (c.new.ensures
    ∙ (λ j. record {
      decided = record { change = c.args.change; kept = true };
      moved = c.moved-moved.ensures j;
      is_noted = c.notes_stay-is_noted.result;
    })) i ∷ taken)))
    (subst (IsTaken c.drop_notes.new.times _) (sym c.set_at.ensures)
    (kept_taken all taken c.self.inside.kept.items c.self.invariant c.args.change there none
    c.set_open.new.self c.set_open.new.self c.settle_from.new.self c.set_open.ensures
    (λ i. c.set_open.new.self) c.settle_from.ensures.follows
    c.drop_notes.new.times c.notes_stay-is_noted.result
    (subst (λ left. DropsNotes left c.notes_stay-is_noted.result c.settle_from.new.self c.drop_notes.new.times)
    c.moved-moved.ensures c.drop_notes.ensures)
    (c.in-Ok.ensures.least ∙ ap (λ kept. least_times c.set_open.new.self.problem
    (chosen_changes c.set_open.new.self.problem kept))
    (c.deref.ensures.value ∙ c.set_at.ensures))
    c.in-Ok.ensures.none))

pub invariant_of-self-in-Err : goal.invariant_of-self-in-Err
invariant_of-self-in-Err c =
    let length_is : vec_len c.push.new.self - 1 ≡ length c.self.inside.taken.items =
    omega (arith, c.in_ok-push.ensures.len, c.self.inside.taken.ok.0) in
    let all = c.self.inside.times in let taken = reverse c.self.inside.taken.items in
    let there : c.args.change < length all.problem.changes =
    omega (arith, c.requires.there, ap (λ (t : TrialParts). length t.problem.changes) c.self.view_is) in
    let none = subst (λ (t : TrialParts). is_decided t.decided c.args.change ≡ false)
    (sym c.self.view_is) c.requires.open_yet in
    subst (λ all. IsTaken c.set_open-in-Err.new.self (reverse all) c.set_at-in-Err.new.flags.items)
    (sym (c.pop.ensures.rest ∙ (λ i. take (length_is i) (c.in_ok-push.ensures.items i))
    ∙ take-append_seam c.self.inside.taken.items (c.new.result ∷ [])))
    (taken_still all taken c.self.inside.kept.items c.self.invariant c.args.change there none
    c.set_open-in-Err.new.self c.forget.new.self.waiting c.set_at-in-Err.new.flags.items
    (kept_not all taken c.self.inside.kept.items c.self.invariant c.args.change there none
    c.set_open.new.self c.set_open.new.self c.settle_from.new.self c.set_open.ensures
    (λ i. c.set_open.new.self) c.settle_from.ensures.follows
    c.forget.new.self c.undo.new.self c.set_open-in-Err.new.self c.forget.ensures.same c.forget.ensures.none
    (λ top rest parts size. c.undo.ensures top rest parts (size ∙ sym c.moved-moved.ensures)) c.set_open-in-Err.ensures)
    c.forget.ensures.none (c.set_at-in-Err.ensures
    ∙ ap (λ flags. slice_set flags c.args.change false) c.set_at.ensures))
