use Rattle.plan_num.proofs.Common.{arith}
use Rattle.link_plans.proofs.Common.{item}
use Rattle.plan_search.proofs.exchange.next_of_trip.Goals as goal

pub natural_v-requires : goal.natural_v-requires
natural_v-requires c = omega (
  arith,
  (c.row-links.ensures.row.right c.loop-arc.arc _
      (item c.row-links.result.now c.loop-arc.arc c.loop-arc-test.true)).within,
  c.requires.each.each_v,
)
