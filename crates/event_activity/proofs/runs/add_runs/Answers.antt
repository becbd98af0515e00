use Rattle.plan_num.proofs.Common.{◌+◌, ◌++◌, ap, arith, ◌∙◌, flat_map, range_with_len}
use Rattle.event_activity.specs.Runs.{line_at, run}
use Rattle.plan_num.proofs.Added.{added_part}
use Rattle.event_activity.proofs.LineEvents.{told_of}
use Rattle.event_activity.proofs.runs.add_runs.Goals as goal

pub loop-before-preserved : goal.loop-before-preserved
loop-before-preserved c =
    added_part c.args.events.now.items c.loop-before.events.items c.add_run.new.events.items
    (run c.args.network.now (line_at c.args.pool.now c.args.line) c.args.direction)
    c.loop-before.before (c.loop-before.before + 1) (omega arith) c.loop-before.invariant
    c.in_ok-add_run.ensures

pub returns : goal.returns
returns c =
    let often = told_of (λ at. at.frequency) c.args.pool.now c.args.line _ c.requires.line
    c.frequency-before-end.ensures in
    c.loop-before.invariant
    ∙ ap (λ n. c.args.events.now.items ++ flat_map
    (run c.args.network.now (line_at c.args.pool.now c.args.line) c.args.direction)
    (range_with_len 1 n)) (omega (arith, often))
