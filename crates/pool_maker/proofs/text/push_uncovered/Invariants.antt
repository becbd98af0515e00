-- There is a comment for each of the edges so far that no line has.
use Rattle.plan_num.proofs.Common.{◌≡◌, ◌++◌, flat_map, range_with_len}
use Rattle.pool_maker.specs.PoolTexts.{uncovered_line}
use Rattle.terminal_lines.specs.TerminalPaths.{uncovered_among}
use Rattle.pool_maker.proofs.text.push_uncovered.Given as goal

abbrev pub invariant-loop-edge : goal.invariant-loop-edge
invariant-loop-edge l =
    l.bytes.items ≡ l.initial.bytes.items
    ++ flat_map (uncovered_line l.network) (uncovered_among l.lines (range_with_len 0 l.edge))
