use Rattle.plan_num.proofs.Common.{arith}
use Rattle.line_search.proofs.ConceptWritten.{cost_handed, modest_cost}
use Rattle.line_search.proofs.found.cost_text.Goals as goal

pub print_fixed-requires-clause-high : goal.print_fixed-requires-clause-high
print_fixed-requires-clause-high c =
    let frequencies = c.args.best.now.frequencies.items in grind (arith, cost_handed, modest_cost)
