use Rattle.plan_num.proofs.Common.{◌∙◌, sym, refl}
use Rattle.pesp.proofs.FlagBits.{flag_is, size_is}
use Rattle.pesp.proofs.flags.EventFlags.none.Goals as goal

pub returns-clause-events : goal.returns-clause-events
returns-clause-events c = sym (size_is c.in_ok-bits.bits _ refl) ∙ c.in_ok-bits.ensures.columns

pub returns-clause-none : goal.returns-clause-none
returns-clause-none c event = flag_is c.in_ok-bits.bits event ∙ c.in_ok-bits.ensures.none 0 event
