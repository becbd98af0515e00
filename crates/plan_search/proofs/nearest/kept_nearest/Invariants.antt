-- What is near is as before.
use Rattle.plan_num.proofs.Common.{◌≡◌}
use Rattle.plan_search.proofs.nearest.kept_nearest.Given as goal

abbrev pub invariant-loop-turn : goal.invariant-loop-turn
invariant-loop-turn l = l.nears ≡ l.fn.nears
