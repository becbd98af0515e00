-- What holds before each turn.
use Rattle.plan_num.proofs.Common.{◌≡◌, map, take, flat_map}
use Rattle.event_tables.specs.declared.periodic_event.PeriodicEvent.{PeriodicEvent}
use Rattle.event_tables.proofs.Common.{broken_in}
use Rattle.roll_out.proofs.rules.broken_events.Given as goal

abbrev pub invariant-loop-run : goal.invariant-loop-run
invariant-loop-run l =
    l.ids.items
    ≡ map (λ (event : PeriodicEvent). event.id) (flat_map broken_in (take l.run-index l.runs))
