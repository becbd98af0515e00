use Rattle.plan_num.proofs.Common.{arith, length, ap, subst, sym, ◌∙◌, All, err_from_is_err_and}
use Rattle.tables.specs.declared.file_id.FileId.TheVariants as file
use Rattle.walks.proofs.Common.{NetworkParts}
use Rattle.ptn_network.proofs.LoadRows.{loads_count}
use Rattle.line_cost_model.proofs.Common.{IsId}
use Rattle.line_walks.proofs.SoundCosts.{costs_count}
use Rattle.line_search.proofs.EdgesOfTexts.{edge_ids}
use Rattle.line_search.proofs.Refusals.{network_refused, pool_refused, loads_refused, costs_refused, given}
use Rattle.line_search.proofs.given.read_problem.Goals as goal

pub returns-in_err-network : goal.returns-in_err-network
returns-in_err-network c =
    let p = err_from_is_err_and c.from_residual.result c.from_residual.ensures.1 in grind (
      arith,
      network_refused,
    )

pub returns-in_err-pool : goal.returns-in_err-pool
returns-in_err-pool c =
    let p = err_from_is_err_and c.from_residual-in_err-pool.result
    c.from_residual-in_err-pool.ensures.1 in grind (arith, pool_refused)

pub returns-in_err-loads : goal.returns-in_err-loads
returns-in_err-loads c =
    let p = err_from_is_err_and c.from_residual-in_err-loads.result
    c.from_residual-in_err-loads.ensures.1 in grind (arith, loads_refused)

pub returns-in_err-costs : goal.returns-in_err-costs
returns-in_err-costs c =
    let p = err_from_is_err_and c.from_residual-in_err-costs.result
    c.from_residual-in_err-costs.ensures.1 in grind (arith, costs_refused)

pub whole_problem-requires-clause-ids : goal.whole_problem-requires-clause-ids
whole_problem-requires-clause-ids c =
    let network = c.in_ok-network.ensures in
    subst (λ (network : NetworkParts). All (λ edge. IsId edge.id) network.edges) (sym network.1)
    (edge_ids c.input.result.now c.input-2.result.now network.0)

pub whole_problem-requires-clause-loads : goal.whole_problem-requires-clause-loads
whole_problem-requires-clause-loads c =
    ap length c.in_ok-loads.ensures.1
    ∙ loads_count file.Load c.in_ok-network.network.edges c.input-4.result.now

pub whole_problem-requires-clause-costs : goal.whole_problem-requires-clause-costs
whole_problem-requires-clause-costs c =
    ap length c.in_ok-costs.ensures.1 ∙ costs_count c.in_ok-pool.pool c.input-5.result.now

pub returns : goal.returns
returns c =
    let network = rw (c.input.ensures, c.input-2.ensures) at c.in_ok-network.ensures in
    let pool = rw c.input-3.ensures at c.in_ok-pool.ensures.made in
    let loads = rw c.input-4.ensures at c.in_ok-loads.ensures in
    let costs = rw c.input-5.ensures at c.in_ok-costs.ensures in
    given c.args.bundle.now c.in_ok-network.network network.0 network.1 c.in_ok-pool.pool pool.0
    pool.1 c.in_ok-loads.loads loads.0 loads.1 c.in_ok-costs.costs c.in_ok-whole_problem.field-0
    costs.0 costs.1 c.in_ok-whole_problem.ensures
