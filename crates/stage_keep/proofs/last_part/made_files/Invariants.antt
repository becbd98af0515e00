-- The files so far and those that are left are all of them.
use Rattle.plan_num.proofs.Common.{◌≡◌, ◌++◌}
use Rattle.stage_keep.proofs.last_part.made_files.Given as goal

abbrev pub invariant-loop-file : goal.invariant-loop-file
invariant-loop-file l = l.made ++ l.file-iterator.rest.items ≡ l.initial.made ++ l.initial.file-iterator.rest.items
