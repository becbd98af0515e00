use Rattle.plan_num.proofs.Common.{◌++◌, ◌-◌, take, get_or, ap, sym, arith, ◌∙◌}
use Rattle.event_tables.proofs.Common.{neighbours, lacks_way}
use Rattle.roll_out.specs.TimedRuns.{no_event}
use Rattle.roll_out.proofs.Added.{added_test, ids_where}
use Rattle.roll_out.proofs.Neighbours.{neighbours_more, neighbours_all}
use Rattle.roll_out.proofs.NotedWays.{lacks_as}
use Rattle.roll_out.proofs.rules.add_unjoined.Goals as goal

pub loop-place-preserved : goal.loop-place-preserved
loop-place-preserved c =
    let run = c.args.run.now in
    let test = lacks_way c.args.network.now.activities in
    let old = c.args.ids.now.items in
    let place = c.loop-place.place in
    let more = neighbours_more run place no_event (omega arith) c.loop-place-test.true in
    added_test old c.loop-place.ids.items c.add_if.new.ids.items test (λ pair. pair.0)
    (take (place - 1) (neighbours run)) (get_or run (place - 1) no_event, get_or run place no_event)
    c.loop-place.invariant c.lacks_way.result
    (c.lacks_way.ensures
    ∙ ap (λ ways. lacks_way ways (get_or run (place - 1) no_event, get_or run place no_event))
    c.ways_from-ways.ensures.ways
    ∙ lacks_as (get_or run (place - 1) no_event, get_or run place no_event)
    c.args.network.now.activities) c.in_ok-add_if.ensures
    ∙ ap (λ some. old ++ ids_where test (λ pair. pair.0) some) (sym more)

pub returns : goal.returns
returns c =
    c.loop-place.invariant
    ∙ ap (λ some. c.args.ids.now.items ++ ids_where (lacks_way c.args.network.now.activities)
    (λ pair. pair.0) some)
    (neighbours_all c.args.run.now c.loop-place.place c.loop-place-test.false)
