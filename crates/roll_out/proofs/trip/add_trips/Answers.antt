use Rattle.plan_num.proofs.Common.{◌++◌, length, map, ap, sym, arith, ◌∙◌, range_with_len}
use Rattle.roll_out.specs.Plans.{trip_after}
use Rattle.roll_out.proofs.Added.{added_one, range_more}
use Rattle.roll_out.proofs.Growing.{trip_is}
use Rattle.roll_out.proofs.trip.add_trips.Goals as goal

pub loop-earlier-preserved : goal.loop-earlier-preserved
loop-earlier-preserved c =
    let old = c.args.trips.now.items in
    let n = c.loop-earlier.earlier in
    let f = trip_after c.args.period c.args.first c.args.plan.now in
    added_one old c.loop-earlier.trips.items c.push.new.self.items f (range_with_len 0 n) n _
    c.loop-earlier.invariant
    (trip_is c.args.period c.args.first n _ _ _ c.args.plan.now (ap length c.events-run.ensures)
    c.start-start.ensures (c.in_ok-from_slice.ensures.items ∙ c.events-run.ensures))
    c.in_ok-push.ensures.items
    ∙ ap (λ some. old ++ map f some) (sym (range_more 0 n n (omega arith)))
