-- What holds before each turn.
use Rattle.plan_num.proofs.Common.{◌≡◌, map, filter, take}
use Rattle.event_tables.specs.declared.periodic_activity.PeriodicActivity.{PeriodicActivity}
use Rattle.event_tables.proofs.Common.{is_stray}
use Rattle.roll_out.proofs.rules.stray_activities.Given as goal

abbrev pub invariant-loop-activity : goal.invariant-loop-activity
invariant-loop-activity l =
    l.ids.items ≡ map (λ (activity : PeriodicActivity). activity.id)
    (filter (is_stray l.events) (take l.activity-index l.activities))
