use Rattle.plan_num.proofs.Common.{◌++◌, map, length, ap, arith, ◌∙◌, range_with_len}
use Rattle.event_activity.specs.Runs.{line_at, run_event}
use Rattle.plan_num.proofs.Added.{added_one}
use Rattle.event_activity.proofs.LineEvents.{told_of}
use Rattle.event_activity.proofs.runs.add_run.Goals as goal

pub run_event-requires-clause-place : goal.run_event-requires-clause-place
run_event-requires-clause-place c =
    let edges = told_of (λ at. at.edges) c.args.pool.now c.args.line _ c.requires.line
    c.edges.ensures in
    omega (arith, ap length edges, c.loop-place-test.true)

pub loop-place-preserved : goal.loop-place-preserved
loop-place-preserved c =
    added_one c.args.events.now.items c.loop-place.events.items c.push.new.self.items
    (run_event c.args.network.now (line_at c.args.pool.now c.args.line) c.args.direction
    c.args.repetition) c.loop-place.place c.run_event.result c.run_event.ensures
    c.loop-place.invariant c.in_ok-push.ensures.items

pub returns : goal.returns
returns c =
    let edges = told_of (λ at. at.edges) c.args.pool.now c.args.line _ c.requires.line
    c.edges.ensures in
    c.loop-place.invariant
    ∙ ap (λ n. c.args.events.now.items ++ map
    (run_event c.args.network.now (line_at c.args.pool.now c.args.line) c.args.direction
    c.args.repetition) (range_with_len 0 n)) (omega (arith, ap length edges))
