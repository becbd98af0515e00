use Rattle.plan_num.proofs.Common.{◌<◌, All, length, subst, sym}
use Rattle.pesp.specs.Timetables.{Problem}
use Rattle.pesp.proofs.Changes.{others_hold}
use Rattle.pesp.proofs.Classed.{owned, waits_less}
use Rattle.pesp.proofs.Linked.{links_at}
use Rattle.pesp.proofs.cycles.Classes.join_from.Goals as goal

pub join_at-requires-clause-classes : goal.join_at-requires-clause-classes
join_at-requires-clause-classes c =
    let problem = c.args.self.now.pesp.now in
    let so = c.loop-turn.invariant in
    owned problem (record c.loop-turn.self { waiting = c.pop.new.self })
    (waits_less problem c.loop-turn.self so c.pop.new.self
    (others_hold (λ event. event < problem.events) c.loop-turn.self.waiting.items
    c.pop.new.self.items c.in-Some.next c.in-Some.ensures.items so.waiting))

pub join_at-requires-clause-within : goal.join_at-requires-clause-within
join_at-requires-clause-within c =
    let problem = c.args.self.now.pesp.now in
    let links = links_at problem c.in-Some.next c.args.links.now c.at.result.now c.requires.links
    c.at.ensures in
    subst (λ (problem : Problem). All (λ index. index < length problem.activities) c.at.result.now)
    (sym c.loop-turn.invariant.own) links.within
