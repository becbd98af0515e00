use Rattle.plan_num.proofs.Common.{arith, slice_get}
use Rattle.stage_keep.proofs.Reading.{one_left}
use Rattle.stage_keep.proofs.read.shorter_entry.Goals as goal

pub returns-in-Some : goal.returns-in-Some
returns-in-Some c = grind (arith, one_left)

pub returns-in-None : goal.returns-in-None
returns-in-None c = grind (arith, slice_get)
