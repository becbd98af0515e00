-- The trips so far have come, so all have where the rest has.
use Rattle.plan_num.proofs.Common.{◌≡◌, ◌-◌, length, list_all, range_with_len}
use Rattle.vehicle_model.specs.Readers.{has_come}
use Rattle.vehicle_model.proofs.reader.Reader.all_come.Given as goal

abbrev pub invariant-loop-i : goal.invariant-loop-i
invariant-loop-i l = list_all (has_come l.self) (range_with_len 0 (length l.self.come))
    ≡ list_all (has_come l.self) (range_with_len l.i (length l.self.come - l.i))
