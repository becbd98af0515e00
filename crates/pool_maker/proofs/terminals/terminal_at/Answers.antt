use Rattle.plan_num.proofs.Common.{ap, sym, ◌∙◌}
use Rattle.pool_maker.proofs.SortedIds.{terminal_there}
use Rattle.pool_maker.proofs.terminals.terminal_at.Goals as goal

pub returns-in-None : goal.returns-in-None
returns-in-None c =
    ap (terminal_there c.args.network.now.stops c.args.id.now)
    (sym c.in-None.is ∙ c.stop_of.ensures)
