use Rattle.plan_num.proofs.Common.{◌∙◌, ap, arith}
use Rattle.pesp.specs.Flags.{Flags, has_changed}
use Rattle.pesp.proofs.FlagBits.{one_set}
use Rattle.pesp.proofs.flags.EventFlags.set_alone.Goals as goal

pub returns-clause-alone : goal.returns-clause-alone
returns-clause-alone c other =
    ap (λ (flags : Flags). has_changed flags other) c.put.ensures
    ∙ one_set c.clear.new.self c.args.event (omega (arith, c.requires, c.clear.ensures.events))
    c.clear.ensures.none other
