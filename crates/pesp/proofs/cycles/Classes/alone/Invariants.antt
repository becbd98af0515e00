-- The events so far are classes by themselves.
use Rattle.plan_num.proofs.Common.{◌≡◌, All, length}
use Rattle.pesp.proofs.Classed.{ArePlaced}
use Rattle.pesp.proofs.cycles.Classes.alone.Given as goal

abbrev pub invariant-loop-event : goal.invariant-loop-event
invariant-loop-event l = record {
  placed : ArePlaced l.pesp l.places.items;
  places : length l.places.items ≡ l.event;
  shifts : length l.shifts.items ≡ l.event;
  zeros : All (λ shift. shift ≡ 0) l.shifts.items;
}
