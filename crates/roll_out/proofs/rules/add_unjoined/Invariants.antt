-- What holds before each turn.
use Rattle.plan_num.proofs.Common.{◌≡◌, ◌++◌, ◌-◌, take}
use Rattle.event_tables.proofs.Common.{neighbours, lacks_way}
use Rattle.roll_out.proofs.Added.{ids_where}
use Rattle.roll_out.proofs.rules.add_unjoined.Given as goal

abbrev pub invariant-loop-place : goal.invariant-loop-place
invariant-loop-place l =
    l.ids.items ≡ l.fn.ids.items ++ ids_where (lacks_way l.network.activities) (λ pair. pair.0)
    (take (l.place - 1) (neighbours l.run))
