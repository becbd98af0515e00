use Rattle.plan_num.proofs.Common.{err_from_is_err_and, ◌∙◌, ◌≡◌, arith, subst}
use Rattle.pesp.specs.Searches.{IsSearched, TakesEntry}
use Rattle.pesp.proofs.EmptySets.{first_full}
use Rattle.pesp.proofs.Entries.{search_begun, search_ended, search_spent, search_turn, step_within}
use Rattle.pesp.proofs.Sweeping.{all_ready}
use Rattle.pesp.proofs.search.listed_times.Goals as goal

pub returns-in_err-times-clause-steps : goal.returns-in_err-times-clause-steps
returns-in_err-times-clause-steps g c =
    let p = err_from_is_err_and c.from_residual-in_err-times.result
    c.from_residual-in_err-times.ensures.1 in
    let so = c.loop-entry.invariant in
    let within = step_within c.args.pesp.now c.loop-entry.sets c.loop-entry.entry c.args.budget
    so.searched
    c.loop-entry-test.true in
    rw (p.1) (
      omega (arith, c.tick.ensures, so.steps),
      omega (arith, c.tick.ensures, so.steps, within),
    )

pub returns-in-Found : goal.returns-in-Found
returns-in-Found g c = grind (arith, search_ended)

pub returns-in-Last : goal.returns-in-Last
returns-in-Last g c = grind (arith, search_ended)

pub returns : goal.returns
returns g c =
    let spent : c.loop-entry.entry ≡ c.args.budget =
    omega (arith, c.loop-entry-test.false, c.loop-entry.auto.entry-end) in
    let ended = search_spent c.args.pesp.now c.loop-entry.sets c.args.budget
    (subst (IsSearched c.args.pesp.now c.loop-entry.sets) spent
    c.loop-entry.invariant.searched) in
    let listed = ended.1 in
    record {
      problem = c.event_count-events.ensures.problem;
      found = ended.0;
      steps = omega (arith, c.loop-entry.invariant.steps, listed, spent);
    }

pub loop-entry-init : goal.loop-entry-init
loop-entry-init g c = record {
  searched = search_begun c.args.pesp.now c.in_ok-sets.sets c.in_ok-sets.ensures;
  ready = all_ready c.args.pesp.now c.in_ok-sets.sets c.in_ok-changed.changed
      c.event_count-events.ensures.problem (c.in_ok-changed.ensures.events ∙ c.event_count-events.ensures.count)
      (λ event low. c.in_ok-changed.ensures.all event (omega (
        arith,
        low,
        c.event_count-events.ensures.count,
      )))
      c.in_ok-sets.ensures.saved
      (first_full c.in_ok-sets.sets.sets _ _ c.event_count-events.ensures.problem.some
      c.in_ok-sets.ensures.first);
  settled = λ event low. absurd (omega (arith, low));
  steps = omega arith;
}

pub loop-entry-preserved : goal.loop-entry-preserved
loop-entry-preserved g c =
    let taken = subst (TakesEntry c.args.pesp.now c.loop-entry.sets c.take_entry.new.sets
    c.take_entry.new.changed)
    c.in-Next.is
    c.in_ok-times.ensures in
    record {
      searched = search_turn c.args.pesp.now c.loop-entry.sets c.take_entry.new.sets
          c.loop-entry.entry
          c.loop-entry.invariant.searched taken.0 taken.1 taken.2;
      ready = taken.3;
      settled = taken.4;
      steps = omega (arith, c.tick.ensures, c.loop-entry.invariant.steps);
    }
