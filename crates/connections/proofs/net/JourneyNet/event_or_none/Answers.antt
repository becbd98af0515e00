use Rattle.plan_num.proofs.Common.{arith, unwrap_or-slice_get}
use Rattle.connections.specs.declared.event_kind.EventKind.TheVariants as kind
use Rattle.connections.specs.declared.timed_event.TimedEvent.{TimedEvent}
use Rattle.connections.proofs.net.JourneyNet.event_or_none.Goals as goal

pub returns : goal.returns
returns c =
    let none : TimedEvent = record { kind = kind.Departure; stop = 0; time = 0 } in grind (
      arith,
      unwrap_or-slice_get,
    )
