use Rattle.plan_num.proofs.Common.{◌+◌, flat_map, range_with_len}
use Rattle.pool_maker.specs.PoolTexts.{uncovered_line}
use Rattle.terminal_lines.specs.TerminalPaths.{uncovered_among}
use Rattle.terminal_lines.proofs.OneMore.{made_more}
use Rattle.pool_maker.proofs.UncoveredEdges.{comments_both, one_edge_more}
use Rattle.pool_maker.proofs.text.push_uncovered.Goals as goal

pub loop-edge-preserved : goal.loop-edge-preserved
loop-edge-preserved c =
    let lines = c.args.lines.now in
    let edge = c.loop-edge.edge in
    let comment = uncovered_line c.args.network.now in
    made_more (λ edges. flat_map comment (uncovered_among lines edges))
    (comments_both comment lines)
    c.args.bytes.now.items (range_with_len 0 edge) (range_with_len 0 (edge + 1)) edge
    c.loop-edge.bytes.items c.push_comment.new.bytes.items (one_edge_more edge)
    c.loop-edge.invariant c.in_ok-push_comment.ensures
