use Rattle.plan_num.proofs.Common.{IfSome, ◌∙◌, ap, find, subst, sym}
use Rattle.event_tables.specs.declared.periodic_event.PeriodicEvent.{PeriodicEvent}
use Rattle.event_tables.proofs.Common.{leads}
use Rattle.roll_out.specs.Plans.{IsBetween}
use Rattle.plan_num.proofs.Found.{found_has}
use Rattle.roll_out.proofs.NotedWays.{leads_as, way_found}
use Rattle.roll_out.proofs.plan.way_on.Goals as goal

pub returns-in-Some-clause-way : goal.returns-in-Some-clause-way
returns-in-Some-clause-way c =
    let pair : PeriodicEvent × PeriodicEvent = (c.args.event.now, c.in-Some.next.now) in
    c.first_leading.ensures ∙ ap (find (leads pair)) c.ways_from.ensures.ways
    ∙ leads_as pair c.args.network.now.activities
    ∙ sym (way_found c.args.network.now c.args.event.now c.in-Some.next.now c.args.behind.now
    c.in-Some.ensures.value)

pub returns-in-Some-clause-sound : goal.returns-in-Some-clause-sound
returns-in-Some-clause-sound c =
    let pair : PeriodicEvent × PeriodicEvent = (c.args.event.now, c.in-Some.next.now) in
    subst (λ way. IfSome way (IsBetween c.args.network.now))
    (sym (c.first_leading.ensures ∙ ap (find (leads pair)) c.ways_from.ensures.ways
    ∙ leads_as pair c.args.network.now.activities))
    (found_has (IsBetween c.args.network.now) (leads pair) c.args.network.now.activities
    c.ways_from.ensures.sound)
