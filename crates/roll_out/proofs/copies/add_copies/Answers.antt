use Rattle.plan_num.proofs.Common.{◌+◌, ◌++◌, length, map, take, get_or, ap, sym, arith, ◌∙◌}
use Rattle.plan_num.proofs.Common.{enumerate_from}
use Rattle.roll_out.specs.DayTrips.{no_timed}
use Rattle.roll_out.specs.Plans.{copies_at}
use Rattle.roll_out.proofs.Added.{enumerated_more, enumerated_all, added_one}
use Rattle.roll_out.proofs.Growing.{copies_is}
use Rattle.roll_out.proofs.copies.add_copies.Goals as goal

pub loop-place-preserved : goal.loop-place-preserved
loop-place-preserved c =
    let run = c.args.plan.now.run in
    let f = copies_at c.args.first c.args.plan.now in
    let old = c.args.copies.now.items in
    let more = enumerated_more 0 run c.loop-place.place no_timed
    (omega (arith, c.loop-place-test.true, ap length c.events-run.ensures)) in
    added_one old c.loop-place.copies.items c.push.new.self.items f
    (take c.loop-place.place (enumerate_from 0 run))
    (0 + c.loop-place.place, get_or run c.loop-place.place no_timed) _
    c.loop-place.invariant
    (copies_is c.args.first c.loop-place.place _ _ _ (get_or run c.loop-place.place no_timed)
    c.args.plan.now (ap length c.events-run.ensures)
    (ap (λ n. n + (get_or c.events-run.result.now c.loop-place.place no_timed).minutes)
    c.start-start.ensures
    ∙ ap (λ some. c.args.plan.now.start + (get_or some c.loop-place.place no_timed).minutes)
    c.events-run.ensures)
    c.trips-count.ensures) c.in_ok-push.ensures.items
    ∙ ap (λ some. old ++ map f some) (sym more)

pub returns : goal.returns
returns c =
    c.loop-place.invariant
    ∙ ap (λ some. c.args.copies.now.items ++ map (copies_at c.args.first c.args.plan.now) some)
    (enumerated_all 0 c.args.plan.now.run c.loop-place.place
    (omega (arith, ap length c.events-run.ensures, c.loop-place-test.false)))
