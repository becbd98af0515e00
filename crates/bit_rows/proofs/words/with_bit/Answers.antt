use Rattle.std.proofs.Common.{ap, sym}
use Rattle.bit_rows.proofs.words.with_bit.Goals as goal
use Rattle.bit_rows.specs.Bits.{with_bit}

pub returns-then-is : goal.returns-then-is
unfolding with_bit
returns-then-is c = sym (ap (with_bit c.args.word c.args.bit) c.if-is.true)

pub returns-else-is : goal.returns-else-is
unfolding with_bit
returns-else-is c = sym (ap (with_bit c.args.word c.args.bit) c.if-is.false)
