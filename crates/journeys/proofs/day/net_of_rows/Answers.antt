use Rattle.plan_num.proofs.Common.{◌≡◌, ◌∙◌, sym, subst}
use Rattle.connections.specs.RankedNets.{IsRanked, parts_of}
use Rattle.journeys.specs.JourneyNets.{net_over}
use Rattle.journeys.proofs.NetOfRows.{rows_ranked}
use Rattle.journeys.proofs.day.net_of_rows.Goals as goal

pub of_parts-requires : goal.of_parts-requires
of_parts-requires c =
    let same : parts_of c.in_ok-timed.timed.items c.in_ok-connections.connections.items
    ≡ net_over c.args.events.now c.args.times.now c.args.activities.now = λ i. record {
      events = c.in_ok-timed.ensures i;
      connections = c.in_ok-connections.ensures i;
    } in
    subst (λ p. IsRanked p c.deref.result.now) (sym same)
    (rows_ranked c.args.events.now c.args.activities.now c.args.times.now c.requires.events
    c.requires.activities c.requires.each c.requires.soon c.deref.result.now
    (c.deref.ensures.value ∙ c.in_ok-ranks.ensures))
