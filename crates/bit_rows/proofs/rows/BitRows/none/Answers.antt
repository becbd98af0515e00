use Rattle.std.proofs.Common.{arith}
use Rattle.bit_rows.proofs.rows.BitRows.none.Goals as goal
use Rattle.bit_rows.proofs.RowBits.{are_none, has_none}

pub invariant_of-result : goal.invariant_of-result
invariant_of-result c = grind (arith, are_none)

pub returns-clause-none : goal.returns-clause-none
returns-clause-none c =
    has_none c.args.rows c.args.columns c.requires.few_columns c.loop-place.words.items
    c.loop-place.invariant.zeros
