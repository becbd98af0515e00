use Rattle.plan_num.proofs.Common.{◌<◌, ◌∙◌, ◌+ℤ◌, ap, arith, length, subst, get_or_default}
use Rattle.std.proofs.lemmas.Int.{to_z-of_z}
use mir.Syntax.{w128}
use Rattle.delay_trials.specs.OnTrial.{TrialTimes}
use Rattle.delay_trials.specs.OpenChanges.{AreAllTested, OpenParts}
use Rattle.delay_trials.specs.Stillness.{MayHaveLimits}
use Rattle.delay_trials.proofs.OnTrialFacts.{day_is, delay_room, limits_before, tested_before, timed}
use Rattle.delay_trials.proofs.RunningDelay.{more_fits, sum_fits, sum_told}
use Rattle.delay_trials.proofs.on_trial.TimesOnTrial.set_time.Goals as goal

pub overflow_add-self : goal.overflow_add-self
overflow_add-self c =
    let more = c.more_delay-more.result in
    let room = delay_room _ _ _ _ _ _ _ _ c.self.invariant in
    rw (
      to_z-of_z w128 c.self.inside.delay (sum_fits c.self.inside.delay more room),
      to_z-of_z w128 more (record { sfits = c.more_delay-more.type_inv }),
    ) (more_fits c.self.inside.delay more room c.more_delay-more.ensures.least c.more_delay-more.ensures.most)

pub invariant_of-self : goal.invariant_of-self
invariant_of-self c =
    let more = c.more_delay-more.result in
    let room = delay_room _ _ _ _ _ _ _ _ c.self.invariant in
    let there : c.args.event < length c.self.inside.problem.now.events =
    omega (arith, c.requires.there, ap (λ (t : TrialTimes). length t.problem.events) c.self.view_is) in
    let day = day_is c.new.ensures c.changes.ensures.value c.deref.ensures.value c.deref-2.ensures.value
    c.deref-3.ensures.value in
    timed _ _ _ _ _ _ _ _ c.self.invariant c.args.event c.args.time c.index-before.result.now c.events.result.now _ _
    c.test_moved.new.broken there c.requires.small c.events.ensures.value
    (c.index-before.ensures ∙ get_or_default c.self.inside.times.items c.args.event c.index-before.result.now 0
    (omega (arith, there, c.self.invariant.each)))
    (sum_told c.self.inside.delay more room (record { sfits = c.more_delay-more.type_inv })
    (more_fits c.self.inside.delay more room c.more_delay-more.ensures.least c.more_delay-more.ensures.most)
    ∙ ap (λ z. c.self.inside.delay +ℤ z) c.more_delay-more.ensures.value)
    (subst (λ (day : OpenParts). AreAllTested day c.test_moved.new.broken) day c.test_moved.ensures.tested)
    c.test_moved.ensures.size c.test_moved.new.shifted c.test_moved.new.until.items
    (subst (λ (day : OpenParts). MayHaveLimits day.changes day.times day.ends c.test_moved.new.shifted
    c.test_moved.new.until.items)
    day c.test_moved.ensures.limits)

pub test_moved-requires-clause-limits : goal.test_moved-requires-clause-limits
test_moved-requires-clause-limits c =
    let there : c.args.event < length c.self.inside.problem.now.events =
    omega (arith, c.requires.there, ap (λ (t : TrialTimes). length t.problem.events) c.self.view_is) in
    limits_before _ _ _ _ _ _ _ _ c.self.invariant c.args.event c.args.time c.index-before.result.now
    (c.index-before.ensures ∙ get_or_default c.self.inside.times.items c.args.event c.index-before.result.now 0
    (omega (arith, there, c.self.invariant.each)))
    c.new.result
    (day_is c.new.ensures c.changes.ensures.value c.deref.ensures.value c.deref-2.ensures.value c.deref-3.ensures.value)

pub test_moved-requires-clause-tested : goal.test_moved-requires-clause-tested
test_moved-requires-clause-tested c =
    let there : c.args.event < length c.self.inside.problem.now.events =
    omega (arith, c.requires.there, ap (λ (t : TrialTimes). length t.problem.events) c.self.view_is) in
    tested_before _ _ _ _ _ _ _ _ c.self.invariant c.args.event c.args.time c.index-before.result.now
    (c.index-before.ensures ∙ get_or_default c.self.inside.times.items c.args.event c.index-before.result.now 0
    (omega (arith, there, c.self.invariant.each)))
    c.new.result
    (day_is c.new.ensures c.changes.ensures.value c.deref.ensures.value c.deref-2.ensures.value c.deref-3.ensures.value)
