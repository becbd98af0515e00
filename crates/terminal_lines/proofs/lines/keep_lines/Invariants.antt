-- The lines are those among the paths so far.
use Rattle.plan_num.proofs.Common.{◌≡◌, take, enumerate_from}
use Rattle.terminal_lines.specs.TerminalPaths.{lines_among}
use Rattle.terminal_lines.proofs.lines.keep_lines.Given as goal

abbrev pub invariant-loop-place : goal.invariant-loop-place
invariant-loop-place l =
    l.lines.items ≡ lines_among l.paths (take l.place (enumerate_from 0 l.paths))
