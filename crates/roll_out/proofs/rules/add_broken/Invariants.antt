-- What holds before each turn.
use Rattle.plan_num.proofs.Common.{◌≡◌, ◌++◌, length, take, enumerate_from}
use Rattle.event_tables.proofs.Common.{breaks}
use Rattle.roll_out.proofs.Added.{ids_where}
use Rattle.roll_out.proofs.rules.add_broken.Given as goal

abbrev pub invariant-loop-place : goal.invariant-loop-place
invariant-loop-place l =
    l.ids.items ≡ l.fn.ids.items ++ ids_where (breaks (length l.run)) (λ at. at.1)
    (take l.place (enumerate_from 0 l.run))
