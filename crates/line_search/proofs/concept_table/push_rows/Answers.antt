use Rattle.plan_num.proofs.Common.{append_assoc, ◌<◌, length, slice_index_or, arith, to_z, of_z}
use Rattle.plan_num.proofs.Common.{ints, All-get_or}
use Rattle.std.proofs.lemmas.Int.{to_z-of_z}
use Rattle.line_search.proofs.ConceptRows.{edges_there, id_within, line_is, rows_more, rows_to, rows_whole}
use Rattle.line_search.proofs.concept_table.push_rows.Goals as goal

pub push_row-requires-clause-place : goal.push_row-requires-clause-place
push_row-requires-clause-place c =
    omega (arith, c.line_edges-edge-items.type_inv.1, c.loop-place-test.true)

pub push_row-requires-clause-edge : goal.push_row-requires-clause-edge
push_row-requires-clause-edge c =
    let problem = c.args.problem.now in
    let edges = c.line_edges-edge-items.result.now in
    All-get_or (λ edge. edge < length problem.edges) edges c.loop-place.place 0
    c.loop-place-test.true (edges_there problem c.args.line c.line_row-id.result edges
    c.line_row-id.ensures c.line_edges-edge-items.ensures c.line_count-lines.ensures.sound)

pub loop-place-preserved : goal.loop-place-preserved
loop-place-preserved c =
    let edges = c.line_edges-edge-items.result.now in grind (
      arith,
      to_z,
      of_z,
      slice_index_or,
      append_assoc,
      rows_to,
      rows_more,
    )

pub returns : goal.returns
returns c =
    let problem = c.args.problem.now in grind (
      arith,
      id_within,
      to_z-of_z,
      ints,
      line_is,
      rows_to,
      rows_whole,
    )
