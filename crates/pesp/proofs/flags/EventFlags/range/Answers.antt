use Rattle.plan_num.proofs.Common.{◌∙◌, ap, arith, sym}
use Rattle.pesp.specs.Flags.{Flags, has_changed}
use Rattle.pesp.proofs.FlagBits.{flag_is, size_is}
use Rattle.pesp.proofs.flags.EventFlags.range.Goals as goal

pub returns-clause-clear : goal.returns-clause-clear
returns-clause-clear c event outside =
    ap (λ (flags : Flags). has_changed flags event) (sym c.self.view_is)
    ∙ flag_is c.self.inside.bits event ∙ c.self.invariant.2 event outside

pub returns-clause-few : goal.returns-clause-few
returns-clause-few c =
    omega (arith, c.self.invariant, size_is c.self.inside.bits c.args.self.now c.self.view_is)
