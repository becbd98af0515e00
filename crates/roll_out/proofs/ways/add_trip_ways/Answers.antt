use Rattle.plan_num.proofs.Common.{ℕ, ◌+◌, ◌++◌, length, take, get_or, ap, sym, arith, ◌∙◌}
use Rattle.plan_num.proofs.Common.{enumerate_from, flat_map}
use Rattle.roll_out.specs.declared.timed_event.TimedEvent.{TimedEvent}
use Rattle.roll_out.specs.DayActivities.{way_from}
use Rattle.roll_out.specs.DayTrips.{no_timed}
use Rattle.roll_out.proofs.Added.{enumerated_more, enumerated_all, added_part}
use Rattle.roll_out.proofs.ways.add_trip_ways.Goals as goal

pub loop-place-preserved : goal.loop-place-preserved
loop-place-preserved c =
    let run = c.args.trip.now.run in
    let first = c.args.trip.now.first in
    let old = c.args.activities.now.items in
    let f = λ (at : ℕ × TimedEvent). way_from at.1.event.kind at.0 at.1.way in
    let more = enumerated_more first run c.loop-place.place no_timed
    (omega (arith, c.loop-place-test.true, ap length c.run-run.ensures)) in
    added_part old c.loop-place.activities.items c.add_way.new.activities.items f
    (take c.loop-place.place (enumerate_from first run))
    (first + c.loop-place.place, get_or run c.loop-place.place no_timed)
    c.loop-place.invariant
    (c.in_ok-add_way.ensures
    ∙ ap (λ n. c.loop-place.activities.items
    ++ f (n + c.loop-place.place, get_or c.run-run.result.now c.loop-place.place no_timed))
    c.first-first.ensures
    ∙ ap (λ some. c.loop-place.activities.items
    ++ f (first + c.loop-place.place, get_or some c.loop-place.place no_timed)) c.run-run.ensures)
    ∙ ap (λ some. old ++ flat_map f some) (sym more)

pub returns : goal.returns
returns c =
    c.loop-place.invariant
    ∙ ap (λ some. c.args.activities.now.items
    ++ flat_map (λ (at : ℕ × TimedEvent). way_from at.1.event.kind at.0 at.1.way) some)
    (enumerated_all c.args.trip.now.first c.args.trip.now.run c.loop-place.place
    (omega (arith, ap length c.run-run.ensures, c.loop-place-test.false)))
