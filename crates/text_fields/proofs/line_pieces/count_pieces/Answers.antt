use Rattle.plan_num.proofs.Common.{rules, eqb, YieldsList-from_slice}
use Rattle.std.proofs.lemmas.Iterator.Consumers.{YieldsList-from_filter, count_from_yields_List}
use borrow.Author.Tests.{tests}
use Rattle.text_fields.proofs.LinePieces.{pieces_counted}
use Rattle.text_fields.proofs.line_pieces.count_pieces.Goals as goal

pub returns : goal.returns
returns c =
    pieces_counted c.args.line.now c.count.result
    (count_from_yields_List c.filter.result _ c.count.ensures.ran
    (YieldsList-from_filter _ (λ byte. eqb byte 59) (YieldsList-from_slice c.args.line.now cc)
    c.filter.ensures.closure (λ x r q k. search (rules, tests))))
