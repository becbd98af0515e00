use Rattle.plan_num.proofs.Common.{◌++◌, codes, ap, sym, ◌∙◌, append_assoc}
use Rattle.giv_files.proofs.Common.{stage_name}
use Rattle.stage_chain.proofs.report.push_broken.Goals as goal

pub returns : goal.returns
returns c =
    let stage = c.name-stage.result.now in
    let rule = c.name-rule.result.now in
    c.in_ok-extend_from_slice.ensures.items
    ∙ ap (λ more. c.args.report.now.items ++ more) (
    c.as_bytes.ensures.value ∙ c.in_ok-text.ensures.ok
    ∙ ap (λ more. codes "uncertified: " ++ more) (
    sym (append_assoc stage (codes ": ") rule)
    ∙ ap (λ name. name ++ codes ": " ++ rule) c.name-stage.ensures
    ∙ ap (λ name. stage_name c.args.stage ++ codes ": " ++ name) c.name-rule.ensures
    )
    )
