-- No activity is noted at first, and then the activities so far.
use Rattle.plan_num.proofs.Common.{◌≡◌, [], All, length, map, take}
use Rattle.roll_out.specs.Plans.{AreWays}
use Rattle.roll_out.proofs.event_ways.EventWays.new.Given as goal

abbrev pub invariant-loop-event : goal.invariant-loop-event
invariant-loop-event l = record {
  size : length l.rows.items ≡ l._event;
  empty : All (λ row. row ≡ []) (map (λ row. row.items) l.rows.items);
}

abbrev pub invariant-loop-activity : goal.invariant-loop-activity
invariant-loop-activity l =
    AreWays l.events (take l.activity-index l.activities) (map (λ row. row.items) l.rows.items)
