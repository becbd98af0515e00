use Rattle.plan_num.proofs.Common.{sym, subst, ◌∙◌, err_from_is_err_and}
use Rattle.tables.proofs.Common.{input_faults, Refuses, refused_append}
use Rattle.ptn_network.specs.Inputs.{stop_input}
use Rattle.ptn_network.specs.Networks.{network_faults}
use Rattle.walks.proofs.Common.{AreKeyed, IsNetwork, by_id_keyed}
use Rattle.ptn_network.proofs.Rows.{entries_keyed}
use Rattle.ptn_network.proofs.Sound.{network_sound}
use Rattle.ptn_network.proofs.Texts.{edge_faults, network_is}
use Rattle.ptn_network.proofs.network.Network.from_texts.Goals as goal

pub returns-in_err-stops : goal.returns-in_err-stops
unfolding network_faults
returns-in_err-stops c =
    let p = err_from_is_err_and c.from_residual.result c.from_residual.ensures.1 in
    rw (p.1, p.2) (refused_append (input_faults stop_input c.args.stops.now) _
    c.in_err-stops.field-0.0 c.in_err-stops.ensures)

pub returns-in_err-edges : goal.returns-in_err-edges
returns-in_err-edges c =
    let p = err_from_is_err_and c.from_residual-in_err-edges.result
    c.from_residual-in_err-edges.ensures.1 in
    let stops = c.in_ok-stops.ensures in
    let faults = edge_faults c.args.stops.now c.args.edges.now c.in_ok-stops.stops.keys stops.1
    stops.0 in
    rw (p.1, p.2) (subst (λ all. Refuses all c.in_err-edges.field-0.0) faults
    c.in_err-edges.ensures)

pub new-requires-clause-keyed : goal.new-requires-clause-keyed
new-requires-clause-keyed c = subst AreKeyed (sym c.in_ok-edges.ensures.1)
    (by_id_keyed _ (entries_keyed c.in_ok-stops.stops.keys _))

pub new-requires-clause-network : goal.new-requires-clause-network
new-requires-clause-network c =
    let stops = c.in_ok-stops.ensures in
    let edges = c.in_ok-edges.ensures in
    let none = sym (edge_faults c.args.stops.now c.args.edges.now c.in_ok-stops.stops.keys stops.1
    stops.0) ∙ edges.0 in
    subst IsNetwork (sym (network_is c.args.stops.now c.args.edges.now c.in_ok-stops.stops.keys
    stops.1 c.in_ok-edges.edges.entries edges.1))
    (network_sound c.args.stops.now c.args.edges.now none)

pub returns : goal.returns
returns c =
    let stops = c.in_ok-stops.ensures in
    let edges = c.in_ok-edges.ensures in (
      sym (edge_faults c.args.stops.now c.args.edges.now c.in_ok-stops.stops.keys stops.1 stops.0)
          ∙ edges.0,
      c.in_ok-network.ensures ∙ network_is c.args.stops.now c.args.edges.now
          c.in_ok-stops.stops.keys stops.1 c.in_ok-edges.edges.entries edges.1,
    )
