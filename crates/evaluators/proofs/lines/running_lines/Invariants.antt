-- The count is that of the lines so far.
use Rattle.std.proofs.Common.{◌≡◌, ◌≤◌, filter, length, ltb, take}
use Rattle.evaluators.proofs.lines.running_lines.Given as goal

abbrev pub invariant-loop-line : goal.invariant-loop-line
invariant-loop-line l = record {
  told : l.count ≡ length (filter (λ line. ltb 0 line.frequency) (take l.line-index l.lines));
  few : l.count ≤ l.line-index;
}
