use Rattle.std.proofs.Common.{refl}
use Rattle.bit_rows.proofs.words.has_bit.Goals as goal
use Rattle.bit_rows.specs.Bits.{has_bit}

pub returns : goal.returns
unfolding has_bit
returns c = refl
