-- There is a line for each id so far.
use Rattle.plan_num.proofs.Common.{◌≡◌, map, take}
use Rattle.line_walks.specs.LinesSoFar.{no_line}
use Rattle.line_walks.proofs.line_rows.no_lines.Given as goal

abbrev pub invariant-loop-id : goal.invariant-loop-id
invariant-loop-id l = l.lines.items ≡ map no_line (take l.id-index l.ids.keys)
