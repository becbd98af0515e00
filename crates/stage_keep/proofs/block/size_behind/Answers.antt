use Rattle.plan_num.proofs.Common.{arith, ap, ◌∙◌, decimal, same_Some}
use Rattle.stage_keep.specs.InnerReading.{line_behind}
use Rattle.stage_keep.proofs.Blocks.{opening_line}
use Rattle.stage_keep.proofs.block.size_behind.Goals as goal

pub returns-in_err-line : goal.returns-in_err-line
returns-in_err-line c = λ size rest small is.
    let none = c.in_err-line.ensures ∙ ap (line_behind c.args.head.now) is
    ∙ opening_line c.args.head.now size rest small in grind arith

pub returns : goal.returns
returns c = λ size rest small is.
    c.size_of.ensures size small
    (same_Some c.in_ok-line.line.now (decimal size)
    (c.in_ok-line.ensures ∙ ap (line_behind c.args.head.now) is
    ∙ opening_line c.args.head.now size rest small))
