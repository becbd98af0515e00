use Rattle.plan_num.proofs.Common.{◌-◌, refl, w64, leading_zeros}
use Rattle.bit_rows.proofs.words.last_bit.Goals as goal
use Rattle.bit_rows.proofs.WordBits.{last_is, no_last}

pub returns-then-rest-eq0 : goal.returns-then-rest-eq0
returns-then-rest-eq0 c =
    no_last c.args.word c.cut-rest.result c.args.end c.cut-rest.ensures c.if-rest-eq0.true

pub returns : goal.returns
returns c =
    last_is c.args.word c.cut-rest.result c.args.end c.cut-rest.ensures
    (63 - leading_zeros w64 c.cut-rest.result) c.if-rest-eq0.false c.cut-rest.type_inv refl
