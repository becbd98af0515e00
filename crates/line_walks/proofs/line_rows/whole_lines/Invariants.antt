-- The whole lines so far and those that are left make all of them.
use Rattle.plan_num.proofs.Common.{◌≡◌, ◌++◌, map}
use Rattle.line_walks.specs.LinesSoFar.{whole_line}
use Rattle.line_walks.proofs.line_rows.whole_lines.Given as goal

abbrev pub invariant-loop-line : goal.invariant-loop-line
invariant-loop-line l = l.whole.items ++ map whole_line l.line-iterator.rest.items ≡ map whole_line l.fn.lines.items
