use Rattle.plan_num.proofs.Common.{◌∙◌, ◌-◌, ◌<◌, length, sym, subst, ap, arith}
use Rattle.connections.specs.Ends.{AreLed, IsWayBack}
use Rattle.connections.specs.Nets.{JourneyParts}
use Rattle.connections.specs.Links.{links_behind}
use Rattle.connections.proofs.WayBack.{IsBackSoFar, back_all, back_more, behind_tail, most_behind, taken}
use Rattle.connections.proofs.net.JourneyNet.way_back.Goals as goal

pub loop-event-smaller : goal.loop-event-smaller
loop-event-smaller c =
    let connections = c.self.inside.connections.items in
    let links = c.self.inside.links.items in
    let ways = c.args.ways.now in
    let event = c.loop-event.event in
    let at = c.index.result.now in
    let same = ap (λ (net : JourneyParts). net.connections) c.self.view_is in
    let led = subst (λ all. AreLed all ways) (sym same) c.requires.led in
    let step = taken connections ways event c.in-By.connection at led c.in-By.is c.index.ensures in
    let more = behind_tail connections links c.self.invariant.are_links c.in-By.connection
    (record { from = at.from; to = event }) step.0 in
    let most = most_behind links at.from in
    let less : length links - links_behind links at.from < length links - links_behind links event
    = omega (arith, more, most) in
    less

pub loop-event-preserved : goal.loop-event-preserved
loop-event-preserved c =
    let connections = c.self.inside.connections.items in grind (
      arith,
      taken,
      IsBackSoFar,
      back_more,
    )

pub returns : goal.returns
returns c =
    let connections = c.self.inside.connections.items in
    let ways = c.args.ways.now in
    let same = ap (λ (net : JourneyParts). net.connections) c.self.view_is in
    let back = back_all connections ways c.args.end c.loop-event.event c.loop-event.journey.items
    c.loop-event.invariant c.in_default.not-By in
    subst (λ all. IsWayBack all ways c.args.end c.from_vec.result) same
    (subst (IsWayBack connections ways c.args.end)
    (sym (c.from_vec.ensures ∙ c.reverse.ensures.items)) back)
