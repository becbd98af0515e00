use Rattle.plan_num.proofs.Common.{position, ap, sym, ◌∙◌, w64, int_eq}
use Rattle.std.proofs.lemmas.Int.{to_z-of_z}
use Rattle.plan_num.proofs.SortedIds.{found, missed}
use Rattle.branch_certificate.proofs.problem_ids.index_of.Goals as goal

pub returns-in-Ok-clause-index : goal.returns-in-Ok-clause-index
returns-in-Ok-clause-index c =
    let ids = c.args.ids.now in
    let own = ap (λ id. position (int_eq id) ids) (to_z-of_z w64 c.args.id c.ranges.id) in
    sym (sym own ∙ found ids _ c.requires c.in-Ok.place c.in-Ok.ensures.bound c.in-Ok.ensures.ok)

pub returns-in-Err-clause-index : goal.returns-in-Err-clause-index
returns-in-Err-clause-index c =
    let ids = c.args.ids.now in
    let own = ap (λ id. position (int_eq id) ids) (to_z-of_z w64 c.args.id c.ranges.id) in
    sym (sym own ∙ missed ids _ c.requires c.in-Err.field-0 c.in-Err.ensures.position)
