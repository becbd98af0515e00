use Rattle.plan_num.proofs.Common.{get_or, arith}
use Rattle.link_plans.proofs.Common.{links_in, link_to, none_past, item}
use Rattle.plan_search.proofs.Parted.{covered_more, row_covers}
use Rattle.plan_search.proofs.parting.covers.Goals as goal

pub natural_v-requires : goal.natural_v-requires
natural_v-requires c = omega (
  arith,
  (c.row-links.ensures.row.right c.loop-link.link-index _
      (item c.row-links.result.now c.loop-link.link-index c.loop-link-test.true)).within,
  c.requires.each.each_v,
)

pub loop-link-preserved : goal.loop-link-preserved
loop-link-preserved c = covered_more c.row-links.result.now c.args.potentials.now c.args.i
    c.loop-link.link-index c.loop-link.invariant
    (get_or c.row-links.result.now c.loop-link.link-index (link_to 0 0))
    (item c.row-links.result.now c.loop-link.link-index c.loop-link-test.true)
    (omega (
      arith,
      c.if-own-natural_v.false,
      c.of_trip-own.ensures.value,
      c.natural_v.ensures.value,
    ))

pub returns : goal.returns
returns c _ = row_covers (links_in c.args.trips.now) c.args.potentials.now c.args.i
    c.loop-link.link-index c.row-links.result.now c.row-links.ensures.row c.loop-link.invariant
    (omega (arith, c.loop-link-test.false)) (none_past (links_in c.args.trips.now) c.row-links.ensures.links c.args.i)
