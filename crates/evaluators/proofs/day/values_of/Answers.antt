use Rattle.std.proofs.Common.{◌≤◌, true, [], All, ap, subst, sym, ◌∙◌}
use Rattle.std.proofs.lemmas.Int.{to_z-of_z}
use mir.Syntax.{w128}
use Rattle.propagation.specs.declared.times.TheConstants.{LATEST}
use Rattle.propagation.proofs.Common.{missed_at}
use Rattle.delay_management.specs.DayLateness.{delay_at}
use Rattle.delay_management.specs.InputProblems.{activities_of}
use Rattle.evaluators.specs.Statistic.{greatest_delay}
use Rattle.evaluators.proofs.Bounded.{rows_few, times_below}
use Rattle.evaluators.proofs.ValuesOfParts.{day_are}
use Rattle.evaluators.proofs.day.values_of.Goals as goal

pub empty_minutes-requires : goal.empty_minutes-requires
empty_minutes-requires c = rows_few c.args.events.now c.args.schedule.now c.requires.schedule

pub delay_at-requires-clause-small : goal.delay_at-requires-clause-small
delay_at-requires-clause-small c =
    subst (All (λ time. time ≤ LATEST)) (sym (c.deref.ensures.value ∙
    c.in_ok-times.ensures))
    (times_below _ c.args.disposed.now c.requires.disposed)

pub missed_changes-requires-clause-small : goal.missed_changes-requires-clause-small
missed_changes-requires-clause-small c =
    subst (All (λ time. time ≤ LATEST)) (sym (c.deref-3.ensures.value ∙
    c.in_ok-times.ensures))
    (times_below _ c.args.disposed.now c.requires.disposed)

pub returns : goal.returns
returns c =
    let events = c.args.events.now in
    let first = c.deref.ensures.value ∙ c.in_ok-times.ensures in
    let second = c.deref-2.ensures.value ∙ c.in_ok-times.ensures in
    let third = c.deref-3.ensures.value ∙ c.in_ok-times.ensures in
    day_are events c.args.activities.now c.args.schedule.now c.args.disposed.now _ _ _ _ _
    c.in_ok-vehicle_count.ensures.count c.empty_minutes.ensures.value
    (to_z-of_z w128 c.delay_at.result (record { sfits = c.delay_at.type_inv }) ∙ c.delay_at.ensures
    ∙ ap (delay_at events) first)
    (c.greatest_delay.ensures ∙ ap (greatest_delay events) second)
    (c.missed_changes.ensures ∙ ap (missed_at (activities_of true [] c.args.activities.now)) third)
