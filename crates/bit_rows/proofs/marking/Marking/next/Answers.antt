use Rattle.std.proofs.Common.{subst}
use Rattle.bit_rows.specs.Markings.{IsNext, IsNextBit}
use Rattle.bit_rows.proofs.MarkWords.{next_is}
use Rattle.bit_rows.proofs.marking.Marking.next.Goals as goal

pub returns : goal.returns
returns c =
    subst (λ marks. IsNext marks c.args.from c.within.result) c.self.view_is
    (next_is c.self.inside.words.items c.self.inside.count c.args.from c.next_bit.result
    (subst (λ words. IsNextBit words c.args.from c.next_bit.result) c.deref.ensures.value c.next_bit.ensures)
    c.within.result c.within.ensures)
