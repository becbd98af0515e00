-- The first rows are told.
use Rattle.std.proofs.Common.{◌≡◌, map, take}
use Rattle.wait_choice.specs.Judged.{keeps}
use Rattle.wait_choice.proofs.judge.kept_in.Given as goal

abbrev pub invariant-loop-choice : goal.invariant-loop-choice
invariant-loop-choice l = l.kept.items ≡ take l.choice-index (map keeps l.choices)
