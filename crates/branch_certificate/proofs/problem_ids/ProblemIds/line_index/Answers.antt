use Rattle.plan_num.proofs.Common.{position, ap, ◌∙◌, w64, int_eq}
use Rattle.std.proofs.lemmas.Int.{to_z-of_z}
use Rattle.branch_certificate.proofs.problem_ids.ProblemIds.line_index.Goals as goal

pub returns : goal.returns
returns c =
    c.index_of.ensures.index ∙ ap (position _) c.deref.ensures.value
    ∙ ap (λ id. position (int_eq id) c.self.inside.lines.items)
    (to_z-of_z w64 c.args.id c.ranges.id)
    ∙ ap (λ ids. position (int_eq c.args.id) ids.lines) c.self.view_is
