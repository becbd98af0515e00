use Rattle.plan_num.proofs.Common.{◌≡◌, arith}
use Rattle.vehicle_model.proofs.Reading.{knows_nothing}
use Rattle.vehicle_model.proofs.reader.Reader.new.Goals as goal

pub returns : goal.returns
returns c =
    let all : c.loop-trip._trip ≡ c.len.result = grind arith in grind (arith, knows_nothing)
