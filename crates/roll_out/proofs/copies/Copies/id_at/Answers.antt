use Rattle.plan_num.proofs.Common.{◌∷◌, [], ap, ◌∙◌}
use Rattle.roll_out.proofs.Spaced.{before_copies, between_copies, behind_copies, copy_found}
use Rattle.roll_out.proofs.copies.Copies.id_at.Goals as goal

pub returns-then-time-self : goal.returns-then-time-self
returns-then-time-self c =
    before_copies c.args.period c.args.time c.requires.period c.args.self.now c.if-time-self.true

pub returns-then-after-period-ne0 : goal.returns-then-after-period-ne0
returns-then-after-period-ne0 c =
    between_copies c.args.period c.args.time c.requires.period c.args.self.now
    c.if-time-self.false c.if-after-period-ne0.true

pub returns-then-after-period : goal.returns-then-after-period
returns-then-after-period c =
    behind_copies c.args.period c.args.time c.requires.period c.args.self.now
    c.if-time-self.false c.if-after-period.true

pub returns : goal.returns
returns c =
    ap (λ id. id ∷ []) c.id.ensures
    ∙ copy_found c.args.period c.args.time c.requires.period c.args.self.now
    c.if-time-self.false c.if-after-period-ne0.false c.if-after-period.false
