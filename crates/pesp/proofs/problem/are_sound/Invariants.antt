-- The activities so far go from event to event, by bounds in order.
use Rattle.plan_num.proofs.Common.{ℕ, ◌<◌, get_or}
use Rattle.pesp.specs.Timetables.{IsActivity}
use Rattle.pesp.proofs.FirstBroken.{no_activity}
use Rattle.pesp.proofs.problem.are_sound.Given as goal

abbrev pub invariant-loop-activity : goal.invariant-loop-activity
invariant-loop-activity l =
    (k : ℕ) → k < l.activity-index → IsActivity l.events (get_or l.activities k no_activity)
