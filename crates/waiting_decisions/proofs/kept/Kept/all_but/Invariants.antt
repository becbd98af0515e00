use Rattle.plan_num.proofs.Common.{◌≡◌, take}
use Rattle.waiting_decisions.specs.Paths.{all_but}
use Rattle.waiting_decisions.proofs.kept.Kept.all_but.Given as goal

abbrev pub invariant-loop-change : goal.invariant-loop-change
invariant-loop-change l = l.flags.items ≡ all_but l.count (take l.change-index l.dropped)
