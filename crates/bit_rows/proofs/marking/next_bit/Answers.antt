use Rattle.std.proofs.Common.{◌/◌, ◌%◌, ◌+◌, arith, subst}
use Rattle.bit_rows.specs.Bits.{IsFirstBit}
use Rattle.bit_rows.specs.Markings.{IsNextWord}
use Rattle.bit_rows.proofs.Cases.{by_less}
use Rattle.bit_rows.proofs.MarkWords.{bit_past, bits_empty, bits_end}
use Rattle.bit_rows.proofs.marking.next_bit.Goals as goal

pub returns-in-None : goal.returns-in-None
returns-in-None c k from =
    by_less k c.loop-place.place (c.loop-place.invariant.bare k from)
    (bits_end c.args.words.now c.loop-place.place
    (subst (IsFirstBit _ (c.loop-place.place % 64)) c.in_default.is c.first_bit.ensures)
    (subst (IsNextWord c.args.words.now (c.loop-place.place / 64 + 1)) c.in-None.is c.next_word.ensures) k)

pub loop-place-preserved : goal.loop-place-preserved
loop-place-preserved c =
    let next = subst (IsNextWord c.args.words.now (c.loop-place.place / 64 + 1)) c.in-Some-next_word.is c.next_word.ensures in
    record {
      from = omega (arith, c.loop-place.invariant.from, next.0);
      bare = λ k from to.
          by_less k c.loop-place.place (c.loop-place.invariant.bare k from)
          (λ past. bits_empty c.args.words.now c.loop-place.place c.in-Some-next_word.word
          (subst (IsFirstBit _ (c.loop-place.place % 64)) c.in_default.is c.first_bit.ensures) next k past to);
    }

pub returns : goal.returns
returns c k from =
    by_less k c.loop-place.place (c.loop-place.invariant.bare k from)
    (λ past. bit_past c.args.words.now k (omega (arith, past, c.loop-place-test.false)))
