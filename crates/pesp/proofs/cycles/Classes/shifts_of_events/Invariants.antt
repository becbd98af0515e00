-- The minutes of the events so far bring them back to themselves.
use Rattle.pesp.proofs.Classed.{AreShiftsTo}
use Rattle.pesp.proofs.cycles.Classes.shifts_of_events.Given as goal

abbrev pub invariant-loop-place : goal.invariant-loop-place
invariant-loop-place l = AreShiftsTo l.self.pesp.now l.shifts.items l.place-index
