-- No index is noted before the first activity, and then those of the activities so far.
use Rattle.plan_num.proofs.Common.{◌≡◌, [], All, length, map}
use Rattle.pesp.specs.Revising.{AreLinks}
use Rattle.pesp.proofs.links.Links.new.Given as goal

abbrev pub invariant-loop-event : goal.invariant-loop-event
invariant-loop-event l = record {
  size : length l.rows.items ≡ l._event;
  empty : All (λ row. row ≡ []) (map (λ row. row.items) l.rows.items);
}

abbrev pub invariant-loop-index : goal.invariant-loop-index
invariant-loop-index l = AreLinks l.pesp l.index (map (λ row. row.items) l.rows.items)
