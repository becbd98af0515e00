use Rattle.plan_num.proofs.Common.{arith, ◌<◌, ◌∙◌, length, All, subst, sym}
use Rattle.propagation.specs.declared.links.Link.{Link}
use Rattle.propagation.proofs.LinksByRank.{events_there, links_start, made_rise, made_there}
use Rattle.propagation.proofs.links.links_in_order.Goals as goal

pub of_links-requires : goal.of_links-requires
of_links-requires c =
    subst (All (λ (link : Link). link.step.from < length c.args.events.now))
    (sym (c.deref.ensures.value ∙ c.in_ok-all.ensures))
    (links_start c.args.events.now c.args.rides.now c.args.turns.now c.args.changes.now
    c.requires.rides c.requires.turns c.requires.changes)

pub by_ranks-requires-clause-events : goal.by_ranks-requires-clause-events
by_ranks-requires-clause-events c =
    let ranks = c.in_ok-ranks.ranks.items in grind (arith, events_there)

pub returns-clause-all : goal.returns-clause-all
returns-clause-all c =
    let events = c.args.events.now in grind (arith, made_there, links_start)

pub returns-clause-in_order : goal.returns-clause-in_order
returns-clause-in_order c =
    let events = c.args.events.now in
    let rides = c.args.rides.now in
    let turns = c.args.turns.now in
    let changes = c.args.changes.now in
    made_rise events rides turns changes c.requires.few
    (links_start events rides turns changes c.requires.rides c.requires.turns c.requires.changes)
    c.in_ok-ranks.ranks.items c.deref-3.result.now c.deref-2.result.now c.in_ok-links.links.items
    c.in_ok-ranks.ensures.all (c.deref-2.ensures.value ∙ c.in_ok-all.ensures) c.deref-3.ensures.value
    c.in_ok-links.ensures c.in_ok-ranks.ensures.in_order
