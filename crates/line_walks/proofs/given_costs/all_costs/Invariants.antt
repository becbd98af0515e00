-- Each of the lines so far has a cost.
use Rattle.plan_num.proofs.Common.{◌≡◌, false, take, list_any}
use Rattle.line_walks.specs.GivenCosts.{costs_over}
use Rattle.line_walks.proofs.CostRules.{lacks}
use Rattle.line_walks.proofs.given_costs.all_costs.Given as goal

abbrev pub invariant-loop-line : goal.invariant-loop-line
invariant-loop-line l =
    record {
      there : list_any (lacks l.rows) (take l.line l.pool) ≡ false;
      costs : l.costs.items ≡ costs_over (take l.line l.pool) l.rows;
    }
