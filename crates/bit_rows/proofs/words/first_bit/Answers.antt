use Rattle.std.proofs.Common.{arith, refl}
use Rattle.bit_rows.proofs.words.first_bit.Goals as goal
use Rattle.bit_rows.proofs.WordBits.{first_is, no_first}

pub returns-then-rest-eq0 : goal.returns-then-rest-eq0
returns-then-rest-eq0 c = no_first c.args.word c.args.from c.if-rest-eq0.true

pub returns : goal.returns
returns c =
    first_is c.args.word c.args.from _ c.requires c.ranges.word.fits refl
    (λ none. absurd (omega (arith, none))) (omega arith)
