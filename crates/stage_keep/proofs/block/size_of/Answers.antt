use Rattle.plan_num.proofs.Common.{ap, subst, sym, ◌∙◌, result_ok, IsUtf8}
use Rattle.std.proofs.lemmas.Fmt.{parse-decimal}
use Rattle.stage_keep.proofs.Blocks.{decimal_utf8}
use Rattle.stage_keep.proofs.block.size_of.Goals as goal

pub returns-in-Ok : goal.returns-in-Ok
returns-in-Ok c = λ size small is.
    c.ok.ensures.value
    ∙ ap result_ok
    (parse-decimal 64 size c.in-Ok.text.now c.parse.result small small (c.in-Ok.ensures.cases.0 ∙ is)
    c.parse.ensures.value.0)

pub returns-in-Err : goal.returns-in-Err
returns-in-Err c =
    λ size small is. absurd (c.in-Err.ensures.cases.0 (subst (λ bs. IsUtf8 bs) (sym is) (decimal_utf8 size small)))
