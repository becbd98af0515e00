-- What holds before each turn.
use Rattle.plan_num.proofs.Common.{◌≡◌, ◌++◌, map, take, enumerate_from}
use Rattle.roll_out.specs.Plans.{copies_at}
use Rattle.roll_out.proofs.copies.add_copies.Given as goal

abbrev pub invariant-loop-place : goal.invariant-loop-place
invariant-loop-place l =
    l.copies.items ≡ l.fn.copies.items ++ map (copies_at l.first l.plan)
    (take l.place (enumerate_from 0 l.plan.run))
