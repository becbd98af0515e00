use Rattle.plan_num.proofs.Common.{length, arith, ap, sym, ◌∙◌, sum_by, take_all}
use Rattle.roll_out.proofs.WaysCounted.{way_size, ways_counted}
use Rattle.roll_out.proofs.ways.trip_way_count.Goals as goal

pub returns-clause-count : goal.returns-clause-count
returns-clause-count c =
    c.loop-at.invariant.told
    ∙ ap (sum_by way_size) (take_all c.loop-at.at-index c.args.trip.now.run
    (omega (arith, ap length c.run-at-items.ensures, c.loop-at-test.false)))
    ∙ sym (ways_counted c.args.trip.now.first c.args.trip.now.run)
