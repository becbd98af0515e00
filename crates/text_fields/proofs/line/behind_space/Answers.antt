use Rattle.plan_num.proofs.Common.{◌≡◌, arith, get_or, rules}
use Rattle.text_fields.proofs.FieldFacts.{space_cut}
use Rattle.text_fields.proofs.line.behind_space.Goals as goal

pub returns-in-32 : goal.returns-in-32
returns-in-32 c =
    let space : get_or c.args.field.now 0 0 ≡ 32 = search rules in grind (arith, space_cut)
