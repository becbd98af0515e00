use Rattle.plan_num.proofs.Common.{◌++◌, codes, ap, sym, ◌∙◌, append_assoc, decimal}
use Rattle.tables.proofs.Common.{counted_text}
use Rattle.stage_chain.proofs.report.push_refusal.Goals as goal

pub returns-in_ok-extend_from_slice-in-TooMany : goal.returns-in_ok-extend_from_slice-in-TooMany
returns-in_ok-extend_from_slice-in-TooMany c =
    rw c.in-TooMany.is
    (c.in_ok-extend_from_slice-in-TooMany.ensures.items
    ∙ ap (λ more. c.args.report.now.items ++ more)
    (c.as_bytes-in-TooMany.ensures.value ∙ c.in_ok-text-in-TooMany.ensures.ok
    ∙ ap (λ more. codes "refused: too many " ++ more)
    (sym (append_assoc (counted_text c.in-TooMany.what) (codes ": ") (decimal c.in-TooMany.count)))))
