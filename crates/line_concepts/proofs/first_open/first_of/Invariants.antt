-- The first open line so far and the lines behind it give that of all.
use Rattle.plan_num.proofs.Common.{◌≡◌, None, drop, fold}
use Rattle.line_concepts.proofs.DearestLines.{rows_from, with_row}
use Rattle.line_concepts.proofs.first_open.first_of.Given as goal

abbrev pub invariant-loop-line : goal.invariant-loop-line
invariant-loop-line l =
    fold with_row l.first (drop l.line (rows_from 0 l.problem.lines l.region.ranges))
    ≡ fold with_row None (rows_from 0 l.problem.lines l.region.ranges)
