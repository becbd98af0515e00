use Rattle.plan_num.proofs.Common.{subst, sym, ◌∙◌, err_from_is_err_and}
use Rattle.walks.proofs.Common.{IsNetwork}
use Rattle.ptn_network.proofs.Sound.{network_sound}
use Rattle.pool_maker.proofs.MadePools.{no_faults, pool_of_text, stops_of_terminals}
use Rattle.pool_maker.proofs.MadePools.{tellable_lines, text_faults, unknown_faults}
use Rattle.pool_maker.proofs.PoolsAreRight.{pool_right}
use Rattle.pool_maker.proofs.make.make_pool.Goals as goal

pub returns-in_err-network-clause-made : goal.returns-in_err-network-clause-made
returns-in_err-network-clause-made c =
    let p = err_from_is_err_and c.from_residual.result c.from_residual.ensures.1 in
    rw (p.1, p.2) (text_faults c.args.stops.now c.args.edges.now c.args.terminals.now _
    c.in_err-network.ensures)

pub returns-in_err-terminals-clause-made : goal.returns-in_err-terminals-clause-made
returns-in_err-terminals-clause-made c =
    let back = c.from_residual-in_err-terminals in
    let p = err_from_is_err_and back.result back.ensures.1 in
    let read = c.in_ok-network.ensures in
    rw (p.1, p.2) (unknown_faults c.args.stops.now c.args.edges.now c.args.terminals.now
    c.in_ok-network.network read.0 read.1 _ c.in_err-terminals.ensures)

pub paths_between-requires : goal.paths_between-requires
paths_between-requires c =
    let read = c.in_ok-network.ensures in
    let found = c.in_ok-terminals.ensures in
    rw c.for_walks.ensures (record {
      network = subst IsNetwork (sym read.1)
          (network_sound c.args.stops.now c.args.edges.now read.0);
      stops = stops_of_terminals c.args.stops.now c.args.edges.now c.args.terminals.now
          c.in_ok-network.network read.0 read.1 c.deref.result.now found.0
          (c.deref.ensures.value ∙ found.1);
    })

pub text_of_lines-requires : goal.text_of_lines-requires
text_of_lines-requires c =
    let read = c.in_ok-network.ensures in
    let found = c.in_ok-terminals.ensures in
    tellable_lines c.args.stops.now c.args.edges.now c.args.terminals.now c.in_ok-network.network
    read.0 read.1 c.deref.result.now found.0 (c.deref.ensures.value ∙ found.1) c.deref-2.result.now
    c.deref-3.result.now (c.deref-2.ensures.value ∙ rw c.for_walks.ensures at c.in_ok-paths.ensures)
    (c.deref-3.ensures.value ∙ c.in_ok-lines.ensures) c.requires

pub returns-clause-made : goal.returns-clause-made
returns-clause-made c =
    let read = c.in_ok-network.ensures in
    let found = c.in_ok-terminals.ensures in (
      no_faults c.args.stops.now c.args.edges.now c.args.terminals.now c.in_ok-network.network
          read.0 read.1 c.deref.result.now found.0 (c.deref.ensures.value ∙ found.1),
      pool_of_text c.args.stops.now c.args.edges.now c.args.terminals.now c.in_ok-network.network
          read.0 read.1 c.deref.result.now found.0 (c.deref.ensures.value ∙ found.1)
          c.deref-2.result.now c.deref-3.result.now
          (c.deref-2.ensures.value ∙ rw c.for_walks.ensures at c.in_ok-paths.ensures)
          (c.deref-3.ensures.value ∙ c.in_ok-lines.ensures) _
          c.in_ok-text_of_lines.ensures,
    )

pub returns-clause-right : goal.returns-clause-right
returns-clause-right c =
    let made = returns-clause-made c in
    pool_right c.args.stops.now c.args.edges.now c.args.terminals.now c.requires _ made.0 made.1
