use Rattle.plan_num.proofs.Common.{◌∙◌, ap, false, map, true}
use Rattle.delay_management.specs.InputProblems.{activities_of, day_event, earliest_of}
use Rattle.delay_management.proofs.ForwardInputs.{day_as}
use Rattle.delay_management.proofs.bundle_problem.problem_of_rows.Goals as goal

pub of_parts-requires : goal.of_parts-requires
of_parts-requires c =
    let rows = c.args.delays.now.activities.now in
    day_as c.args.turnover c.args.events.items c.args.activities.items c.args.schedule.now
    c.args.delays.now.events.now rows c.requires.events c.requires.activities
    c.requires.schedule c.requires.activity_delays c.requires.turnover
    c.in_ok-days.days.items c.in_ok-earliest.earliest.items c.in_ok-parted.parted.rides.items
    c.in_ok-parted.parted.changes.items c.in_ok-turns.turns.items
    (c.in_ok-days.ensures ∙ ap (map day_event) c.deref-3.ensures.value)
    (c.in_ok-earliest.ensures.times ∙ ap (map (earliest_of c.args.delays.now.events.now)) c.deref.ensures.value)
    (c.in_ok-parted.ensures.rides ∙ ap (activities_of false rows) c.deref-2.ensures.value)
    (c.in_ok-parted.ensures.changes ∙ ap (activities_of true rows) c.deref-2.ensures.value)
    c.in_ok-turns.ensures c.in_ok-earliest.ensures.soon
