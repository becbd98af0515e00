use Rattle.plan_num.proofs.Common.{◌∷◌, ◌++◌, [], ap, sym, ◌∙◌, arith, w64}
use Rattle.std.proofs.lemmas.Int.{to_z-of_z}
use Rattle.line_walks.proofs.CostRules.{line_missing, none_missing, cost_more}
use Rattle.line_walks.proofs.given_costs.all_costs.Goals as goal

pub returns-in-None : goal.returns-in-None
returns-in-None c =
    let missing = line_missing c.args.rows.now c.args.pool.now c.loop-line.line
    (omega arith) c.cost_of_line.result c.cost_of_line.ensures c.in-None.is in grind arith

pub loop-line-preserved : goal.loop-line-preserved
loop-line-preserved c =
    let rows = c.args.rows.now in
    let pool = c.args.pool.now in
    let fits = rw c.in-Some.is at c.cost_of_line.type_inv in
    let own = to_z-of_z w64 c.in-Some.cost (record { sfits = fits.1.1.1.1.0.1 }) in
    record {
      there = none_missing rows pool c.loop-line.line (omega arith) c.cost_of_line.result
          c.cost_of_line.ensures c.in-Some.cost c.in-Some.is c.loop-line.invariant.there;
      costs = c.in_ok-push-in-Some.ensures.items
          ∙ ap (λ cost. c.loop-line.costs.items ++ cost ∷ []) own
          ∙ ap (λ costs. costs ++ c.in-Some.cost ∷ []) c.loop-line.invariant.costs
          ∙ sym (cost_more rows pool c.loop-line.line (omega arith) c.cost_of_line.result
          c.cost_of_line.ensures c.in-Some.cost c.in-Some.is);
    }
