use Rattle.plan_num.proofs.Common.{arith, ◌++◌, ◌<◌, List, All, length, subst, sym, IsPermutation}
use Rattle.propagation.specs.declared.day_event.DayEvent.{DayEvent}
use Rattle.propagation.specs.declared.links.Link.{Link}
use Rattle.propagation.specs.Links.{change_links, parts_of, ride_links, turn_links}
use Rattle.propagation.proofs.DayLinked.{changes_start, day_linked, rides_start, turns_start}
use Rattle.propagation.proofs.propagation.Propagation.of_parts.Goals as goal

pub links_in_order-requires-clause-few : goal.links_in_order-requires-clause-few
links_in_order-requires-clause-few c = grind arith

pub links_in_order-requires-clause-few_changes : goal.links_in_order-requires-clause-few_changes
links_in_order-requires-clause-few_changes c = grind arith

pub links_in_order-requires-clause-rides : goal.links_in_order-requires-clause-rides
links_in_order-requires-clause-rides c =
    subst (λ (events : List DayEvent). All (λ at. at.step.from < length events) c.deref-2.result.now)
    (sym c.deref.ensures.value)
    (subst (All (λ at. at.step.from < length c.args.events.items)) (sym c.deref-2.ensures.value)
    (rides_start (parts_of c.args.events.items c.args.earliest.items c.args.rides.items c.args.changes.items
    c.args.turns.items) c.requires))

pub links_in_order-requires-clause-turns : goal.links_in_order-requires-clause-turns
links_in_order-requires-clause-turns c =
    subst (λ (events : List DayEvent). All (λ turn. turn.from < length events) c.deref-3.result.now)
    (sym c.deref.ensures.value)
    (subst (All (λ turn. turn.from < length c.args.events.items)) (sym c.deref-3.ensures.value)
    (turns_start (parts_of c.args.events.items c.args.earliest.items c.args.rides.items c.args.changes.items
    c.args.turns.items) c.requires))

pub links_in_order-requires-clause-changes : goal.links_in_order-requires-clause-changes
links_in_order-requires-clause-changes c =
    subst (λ (events : List DayEvent). All (λ at. at.step.from < length events) c.deref-4.result.now)
    (sym c.deref.ensures.value)
    (subst (All (λ at. at.step.from < length c.args.events.items)) (sym c.deref-4.ensures.value)
    (changes_start (parts_of c.args.events.items c.args.earliest.items c.args.rides.items c.args.changes.items
    c.args.turns.items) c.requires))

pub invariant_of-result : goal.invariant_of-result
invariant_of-result c =
    let links = c.in_ok-links.links.items in
    let events = c.deref.ensures.value in
    let rides = c.deref-2.ensures.value in
    let turns = c.deref-3.ensures.value in
    let changes = c.deref-4.ensures.value in
    day_linked (parts_of c.args.events.items c.args.earliest.items c.args.rides.items c.args.changes.items
    c.args.turns.items) c.requires links
    (subst (λ (some : List Link). IsPermutation some links)
    (λ i. ride_links (events i) (rides i) ++ (turn_links (events i) (turns i) ++ change_links (events i) 0 (changes i)))
    c.in_ok-links.ensures.all)
    c.in_ok-links.ensures.in_order
