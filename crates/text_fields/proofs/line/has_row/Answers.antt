use Rattle.plan_num.proofs.Common.{refl}
use Rattle.text_fields.proofs.Lines.{first_byte}
use Rattle.text_fields.proofs.line.has_row.Goals as goal

pub returns-in-None : goal.returns-in-None
returns-in-None c =
    let blank = rw (← c.in-None.ensures) at (first_byte c.args.line.now) in rw blank refl

pub returns-in-Some : goal.returns-in-Some
returns-in-Some c =
    let blank = rw (← c.in-Some.ensures) at (first_byte c.args.line.now) in rw blank refl
