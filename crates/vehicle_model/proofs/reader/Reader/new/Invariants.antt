-- No trip has come so far.
use Rattle.plan_num.proofs.Common.{◌≡◌, replicate, false}
use Rattle.vehicle_model.proofs.reader.Reader.new.Given as goal

abbrev pub invariant-loop-trip : goal.invariant-loop-trip
invariant-loop-trip l = l.come.items ≡ replicate l._trip false
