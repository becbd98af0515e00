use Rattle.plan_num.proofs.Common.{◌∙◌}
use Rattle.bit_rows.proofs.WordBits.{from_place, from_word}
use Rattle.pesp.proofs.words.word_from.Goals as goal

pub returns-then-past-eq0 : goal.returns-then-past-eq0
returns-then-past-eq0 c bit low = from_word c.args.words.now c.args.place bit c.if-past-eq0.true low

pub returns : goal.returns
returns c bit low = c.joined.ensures bit low ∙ from_place c.args.words.now c.args.place bit low
