use Rattle.plan_num.proofs.Common.{arith, ◌≡◌, ◌∙◌, length, ap, length-map, with_items_is}
use Rattle.connections.specs.Ways.{first_way}
use Rattle.connections.proofs.WaysAlong.{links_join, long, ways_found}
use Rattle.connections.proofs.ways.ways_from.Goals as goal

pub go_along-requires : goal.go_along-requires
go_along-requires c =
    let first = first_way c.args.query.now.from c.args.query.now.start in
    let size : length c.deref_mut.result.now ≡ length c.args.net.now.events =
    ap length (c.deref_mut.ensures.value ∙ c.in_ok-ways.ensures)
    ∙ length-map c.events.result.now first ∙ ap length c.events.ensures.value in
    links_join c.args.net.now c.events.ensures.net.connections c.args.query.now.from
    c.args.query.now.start c.links.result.now c.links.ensures (length c.deref_mut.result.now) size

pub returns-clause-ways : goal.returns-clause-ways
returns-clause-ways c =
    let net = c.args.net.now in grind (arith, long, with_items_is, ways_found)
