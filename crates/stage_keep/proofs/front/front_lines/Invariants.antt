-- The lines so far, followed by those of the inputs that are left, are all of them.
use Rattle.plan_num.proofs.Common.{◌≡◌, ◌++◌, drop, map}
use Rattle.stage_keep.specs.Entries.{front_lines, input_line}
use Rattle.stage_keep.proofs.front.front_lines.Given as goal

abbrev pub invariant-loop-index : goal.invariant-loop-index
invariant-loop-index l =
    l.lines.items ++ map input_line (drop l.index l.given.inputs) ≡ front_lines l.given
