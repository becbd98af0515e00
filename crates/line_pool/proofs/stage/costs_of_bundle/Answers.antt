use Rattle.plan_num.proofs.Common.{subst, sym, err_from_is_err_and}
use Rattle.walks.proofs.Common.{IsNetwork}
use Rattle.ptn_network.proofs.Sound.{network_sound}
use Rattle.line_walks.specs.declared.line_file.LineFile.TheVariants as kind
use Rattle.line_pool.specs.LineCosts.{AreModest}
use Rattle.line_pool.proofs.CostCalls.{settings_modest, network_refused, pool_refused, costs_given}
use Rattle.line_walks.proofs.SoundLines.{pool_sound}
use Rattle.line_pool.proofs.stage.costs_of_bundle.Goals as goal

pub returns-in_err-network : goal.returns-in_err-network
returns-in_err-network c =
    let p = err_from_is_err_and c.from_residual.result c.from_residual.ensures.1 in
    rw (p.1, p.2) (network_refused c.args.bundle.now c.in_err-network.field-0.0
    (rw (c.input.ensures, c.input-2.ensures) at c.in_err-network.ensures))

pub returns-in_err-pool : goal.returns-in_err-pool
returns-in_err-pool c =
    let p = err_from_is_err_and c.from_residual-in_err-pool.result c.from_residual-in_err-pool.ensures.1 in
    let network = rw (c.input.ensures, c.input-2.ensures) at c.in_ok-network.ensures in
    rw (p.1, p.2) (pool_refused c.args.bundle.now c.in_ok-network.network network.0 network.1
    c.in_err-pool.field-0.0 (rw c.input-3.ensures at c.in_err-pool.ensures.made))

pub costs_of_pool-requires-clause-settings : goal.costs_of_pool-requires-clause-settings
costs_of_pool-requires-clause-settings c = subst AreModest (sym c.settings.ensures)
    (settings_modest c.args.bundle.now c.requires.stage c.requires.fits)

pub costs_of_pool-requires-clause-lines : goal.costs_of_pool-requires-clause-lines
costs_of_pool-requires-clause-lines c =
    let network = c.in_ok-network.ensures in
    let sound = subst IsNetwork (sym network.1)
    (network_sound c.input.result.now c.input-2.result.now network.0) in
    let read = c.in_ok-pool.ensures.made in
    rw read.1 (pool_sound kind.Pool c.in_ok-network.network c.input-3.result.now sound read.0)

pub returns : goal.returns
returns c =
    let network = rw (c.input.ensures, c.input-2.ensures) at c.in_ok-network.ensures in
    let pool = rw c.input-3.ensures at c.in_ok-pool.ensures.made in
    costs_given c.args.bundle.now c.in_ok-network.network network.0 network.1 c.in_ok-pool.pool
    c.in_ok-costs_of_pool.field-0 pool.0 pool.1
    (rw (sym c.settings.ensures) c.in_ok-costs_of_pool.ensures)
