use Rattle.plan_num.proofs.Common.{arith}
use Rattle.pesp.proofs.FlagBits.{flags_in, size_is}
use Rattle.pesp.proofs.flags.EventFlags.word.Goals as goal

pub word-requires-clause-index : goal.word-requires-clause-index
word-requires-clause-index c =
    omega (arith, c.requires, size_is c.self.inside.bits c.args.self.now c.self.view_is)

pub returns : goal.returns
returns c =
    flags_in c.self.inside.bits c.args.self.now c.self.view_is c.args.index
    c.word.result c.word.ensures.value
