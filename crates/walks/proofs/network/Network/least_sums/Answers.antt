use Rattle.walks.proofs.Sums.{sums_same, sums_least, sums_limited, sums_fit}
use Rattle.walks.proofs.network.Network.least_sums.Goals as goal

pub returns-clause-sums : goal.returns-clause-sums
returns-clause-sums c = sums_same c.args.self.now c.args.weight c.args.from c.in_ok-labels.labels
    c.in_ok-labels.ensures c.in_ok-sums.sums.items c.in_ok-sums.ensures

pub returns-clause-least : goal.returns-clause-least
returns-clause-least c = sums_least c.args.self.now c.args.weight c.args.from c.in_ok-labels.labels
    c.in_ok-labels.ensures c.in_ok-sums.sums.items c.in_ok-sums.ensures

pub returns-clause-small : goal.returns-clause-small
returns-clause-small c = sums_limited c.args.self.now c.args.weight c.args.from
    c.in_ok-labels.labels c.in_ok-labels.ensures c.in_ok-sums.sums.items c.in_ok-sums.ensures

pub invariant_of-result : goal.invariant_of-result
invariant_of-result c = sums_fit c.args.self.now c.args.weight c.args.from c.in_ok-labels.labels
    c.in_ok-labels.ensures c.in_ok-sums.sums.items c.in_ok-sums.ensures
