use Rattle.plan_num.proofs.Common.{◌+◌, ◌++◌, length, map, take, get_or, ap, sym, arith, ◌∙◌}
use Rattle.plan_num.proofs.Common.{enumerate_from}
use Rattle.roll_out.specs.DayTrips.{day_event, no_timed}
use Rattle.roll_out.proofs.Added.{enumerated_more, enumerated_all, added_one}
use Rattle.roll_out.proofs.trip.add_events.Goals as goal

pub loop-place-preserved : goal.loop-place-preserved
loop-place-preserved c =
    let run = c.args.trip.now.run in
    let first = c.args.trip.now.first in
    let f = day_event c.args.trip.now.start in
    let old = c.args.events.now.items in
    let more = enumerated_more first run c.loop-place.place no_timed
    (omega (arith, c.loop-place-test.true, ap length c.run-run.ensures)) in
    added_one old c.loop-place.events.items c.push.new.self.items f
    (take c.loop-place.place (enumerate_from first run))
    (first + c.loop-place.place, get_or run c.loop-place.place no_timed) _
    c.loop-place.invariant
    (c.day_event.ensures
    ∙ ap (λ n. day_event n (
      c.first-first.result + c.loop-place.place,
      get_or c.run-run.result.now c.loop-place.place no_timed,
    )) c.start-start.ensures
    ∙ ap (λ n. day_event c.args.trip.now.start (
      n + c.loop-place.place,
      get_or c.run-run.result.now c.loop-place.place no_timed,
    )) c.first-first.ensures
    ∙ ap (λ some. day_event c.args.trip.now.start (
      first + c.loop-place.place,
      get_or some c.loop-place.place no_timed,
    )) c.run-run.ensures) c.in_ok-push.ensures.items
    ∙ ap (λ some. old ++ map f some) (sym more)

pub returns : goal.returns
returns c =
    c.loop-place.invariant
    ∙ ap (λ some. c.args.events.now.items ++ map (day_event c.args.trip.now.start) some)
    (enumerated_all c.args.trip.now.first c.args.trip.now.run c.loop-place.place
    (omega (arith, ap length c.run-run.ensures, c.loop-place-test.false)))
