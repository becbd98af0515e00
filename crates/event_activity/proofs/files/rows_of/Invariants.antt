-- The rows of the events so far.
use Rattle.plan_num.proofs.Common.{◌≡◌, take}
use Rattle.event_activity.specs.EanStage.{rows_of}
use Rattle.event_activity.proofs.files.rows_of.Given as goal

abbrev pub invariant-loop-event : goal.invariant-loop-event
invariant-loop-event l = l.rows.items ≡ rows_of (take l.event-index l.events)
