use Rattle.plan_num.proofs.Common.{◌+◌, ◌-◌, length, drop, get_or, arith, ap, ◌∙◌, append-nil}
use Rattle.plan_num.proofs.Common.{drop_all, length-drop, take_all}
use Rattle.roll_out.specs.TimedRuns.{no_event, timed_from, way_on}
use Rattle.roll_out.proofs.Growing.{timed_moved, timed_none}
use Rattle.roll_out.proofs.plan.timed_events.Goals as goal

pub loop-place-preserved : goal.loop-place-preserved
loop-place-preserved c = record {
  told = timed_moved c.args.network.now c.args.run.now c.loop-place.events.items
      c.push.new.self.items
      (timed_from c.args.network.now 0 c.args.run.now) c.loop-place.minutes
      c.minutes_on-minutes.result
      c.loop-place.place c.way_on-way.result no_event c.loop-place.invariant.told
      c.loop-place-test.true
      (c.way_on-way.ensures.way
      ∙ ap (way_on c.args.network.now (get_or c.args.run.now c.loop-place.place no_event))
      (take_all (length c.args.run.now - (c.loop-place.place + 1))
      (drop (c.loop-place.place + 1) c.args.run.now)
      (omega (arith, length-drop (c.loop-place.place + 1) c.args.run.now))))
      c.minutes_on-minutes.ensures.value c.in_ok-push.ensures.items;
  soon = omega (arith, c.loop-place.invariant.soon, c.minutes_on-minutes.ensures.short);
}

pub returns : goal.returns
returns c =
    let over = drop_all c.loop-place.place c.args.run.now c.loop-place-test.false in grind (
      arith,
      append-nil,
      timed_none,
    )
