use Rattle.plan_num.proofs.Common.{codes, ◌∙◌, ap, ◌++◌}
use Rattle.stage_chain.proofs.Pieces.{two_pieces}
use Rattle.stage_chain.proofs.report.push_config.Goals as goal

pub returns-in_ok-extend_from_slice-in-BadValue-2 : goal.returns-in_ok-extend_from_slice-in-BadValue-2
returns-in_ok-extend_from_slice-in-BadValue-2 c =
    rw c.in-BadValue.is
    (two_pieces c.args.report.now.items (codes "refused: value of ") _ _ _
    c.in_ok-extend_from_slice-in-BadValue.ensures.items
    (c.in_ok-extend_from_slice-in-BadValue-2.ensures.items
    ∙ ap (λ more. c.extend_from_slice.new.self.items ++ more) (c.as_bytes-in-BadValue.ensures.value ∙ c.name.ensures)))
