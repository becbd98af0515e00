use Rattle.plan_num.proofs.Common.{arith, ◌≤ℤ◌, pos, length, ap, subst, sym, ◌∙◌, All}
use Rattle.plan_num.proofs.Common.{err_from_is_err_and}
use Rattle.ptn_network.specs.Loads.{IsBounded}
use Rattle.demand_load.specs.LoadTables.{HasSpread, HasId}
use Rattle.demand_load.proofs.LoadCalls.{settings_fit, loads_count, network_refused, text_refused, frequency_refused, stage_given}
use Rattle.demand_load.proofs.LoadRows.{all_rare}
use Rattle.demand_load.proofs.SoundLoads.{edges_named, loads_sound}
use Rattle.demand_load.proofs.stage.loads_of_bundle.Goals as goal

pub returns-in_err-network : goal.returns-in_err-network
returns-in_err-network c =
    let p = err_from_is_err_and c.from_residual.result c.from_residual.ensures.1 in grind (
      arith,
      network_refused,
    )

pub loads_of_text-requires : goal.loads_of_text-requires
loads_of_text-requires c = subst HasSpread (sym c.settings.ensures)
    (settings_fit c.args.bundle.now c.requires.stage c.requires.fits)

pub returns-in_err-loads : goal.returns-in_err-loads
returns-in_err-loads c =
    let p = err_from_is_err_and c.from_residual-in_err-loads.result
    c.from_residual-in_err-loads.ensures.1 in grind (arith, text_refused)

pub returns-in_err-check_frequencies : goal.returns-in_err-check_frequencies
returns-in_err-check_frequencies c =
    let p = err_from_is_err_and c.from_residual-in_err-check_frequencies.result
    c.from_residual-in_err-check_frequencies.ensures.1 in grind (arith, frequency_refused)

pub loads_made-requires-clause-size : goal.loads_made-requires-clause-size
loads_made-requires-clause-size c =
    ap length (c.deref-2.ensures.value ∙ c.in_ok-loads.ensures.1)
    ∙ loads_count c.settings.result.now c.in_ok-network.network c.input-3.result.now

pub loads_made-requires-clause-ids : goal.loads_made-requires-clause-ids
loads_made-requires-clause-ids c =
    let network = c.in_ok-network.ensures in
    subst (λ some. All HasId some.edges) (sym network.1)
    (edges_named c.input.result.now c.input-2.result.now network.0)

pub loads_made-requires-clause-bounded : goal.loads_made-requires-clause-bounded
loads_made-requires-clause-bounded c =
    let read = c.in_ok-loads.ensures in
    subst (λ loads. All IsBounded loads) (sym (c.deref-2.ensures.value ∙ read.1))
    (loads_sound c.settings.result.now c.in_ok-network.network c.input-3.result.now read.0)

pub loads_made-requires-clause-rare : goal.loads_made-requires-clause-rare
loads_made-requires-clause-rare c =
    subst (λ loads. All (λ load. load.most ≤ℤ pos 1000) loads)
    (c.deref.ensures.value ∙ sym c.deref-2.ensures.value)
    (all_rare c.deref.result.now c.in_ok-check_frequencies.ensures.0)

pub returns : goal.returns
returns c =
    let network = rw (c.input.ensures, c.input-2.ensures) at c.in_ok-network.ensures in grind
    (arith, stage_given)
