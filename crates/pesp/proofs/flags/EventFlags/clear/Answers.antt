use Rattle.plan_num.proofs.Common.{◌∙◌}
use Rattle.pesp.proofs.FlagBits.{flag_is}
use Rattle.pesp.proofs.flags.EventFlags.clear.Goals as goal

pub returns-clause-none : goal.returns-clause-none
returns-clause-none c event =
    flag_is c.clear_all.new.self event ∙ c.clear_all.ensures.none 0 event
