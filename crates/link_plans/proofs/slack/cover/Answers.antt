use Rattle.plan_num.proofs.Common.{max, get_or, ap, sym, ◌∙◌, subst, arith}
use Rattle.link_plans.specs.Links.{links_in}
use Rattle.link_plans.specs.LinkRows.{link_to}
use Rattle.link_plans.specs.Slacks.{Covers}
use Rattle.link_plans.proofs.Covering.{covers_more, covers_all, none_past}
use Rattle.link_plans.proofs.LinkRows.{item}
use Rattle.link_plans.proofs.slack.cover.Goals as goal

pub link_rest-rest-requires : goal.link_rest-rest-requires
link_rest-rest-requires c = omega (
  arith,
  (c.row-links.ensures.row.right c.loop-link.link-index _
      (item c.row-links.result.now c.loop-link.link-index c.loop-link-test.true)).within,
  c.requires.each.each_v,
)

pub loop-link-preserved : goal.loop-link-preserved
loop-link-preserved c = covers_more (links_in c.args.trips.now) c.args.potentials.now c.args.trip c.loop-link.most
    c.loop-link.link-index c.row-links.result.now c.row-links.ensures.row c.loop-link.invariant
    (get_or c.row-links.result.now c.loop-link.link-index (link_to 0 0)) c.greater-most.result
    (item c.row-links.result.now c.loop-link.link-index c.loop-link-test.true)
    (c.greater-most.ensures ∙ ap (max c.loop-link.most) c.link_rest-rest.ensures)

pub returns : goal.returns
returns c =
    let set = c.set_trip.ensures in (
      c.loop-link.most,
      (
        c.loop-link.invariant.small,
        (
          set,
          subst (λ p. Covers (links_in c.args.trips.now) p c.args.trip) (sym set)
              (covers_all (links_in c.args.trips.now) c.args.potentials.now c.args.trip c.loop-link.most
              c.loop-link.link-index c.row-links.result.now c.row-links.ensures.row c.loop-link.invariant
              (none_past (links_in c.args.trips.now) c.row-links.ensures.links c.args.trip)
              (omega (arith, c.loop-link-test.false))
              (omega (arith, c.requires.trip, c.requires.each.each_u))),
        ),
      ),
    )
