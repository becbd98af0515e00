-- The ids are those of the first changes.
use Rattle.std.proofs.Common.{◌≡◌, map, take}
use Rattle.wait_choice.proofs.ids.change_ids.Given as goal

abbrev pub invariant-loop-change : goal.invariant-loop-change
invariant-loop-change l = l.ids.items ≡ take l.change (map (λ change. change.id) l.problem.changes)
