-- What is written of events and of activities is read again, and their ids are their places.
use Rattle.plan_num.proofs.Common.{List, ap, sym, ◌∙◌, arith, range_with_len, length-map, map-map}
use Rattle.giv_files.specs.declared.setting.Setting.{Setting}
use Rattle.event_tables.specs.declared.periodic_event.PeriodicEvent.{PeriodicEvent}
use Rattle.event_tables.proofs.Common.{AreNumbered}
use Rattle.event_activity.specs.declared.run_event.RunEvent.{RunEvent}
use Rattle.event_activity.specs.Activities.{concept_activities}
use Rattle.event_activity.specs.EanStage.{rows_of}
use Rattle.event_activity.specs.Runs.{concept_events}
use Rattle.event_activity.proofs.LineEvents.{numbered_size}
use Rattle.plan_num.proofs.Numbered.{numbers_are}
use Rattle.event_activity.proofs.PlainEvents.{events_are}
use Rattle.line_walks.specs.Pools.{LineParts}
use Rattle.walks.proofs.Common.{NetworkParts}

-- the ids of events are their places
pub events_placed : (network : NetworkParts) (lines : List LineParts)
    → AreNumbered (λ event. event.id) (rows_of (concept_events network lines))
events_placed network lines =
    map-map (λ (row : PeriodicEvent). row.id) (λ (event : RunEvent). event.row)
    (concept_events network lines)
    ∙ (events_are network lines).numbered
    ∙ ap (range_with_len 1) (sym (length-map (concept_events network lines)
    (λ (event : RunEvent). event.row)))

-- and those of activities
pub activities_placed : (settings : List Setting) (events : List RunEvent)
    → AreNumbered (λ row. row.id) (concept_activities settings events)
unfolding concept_activities
activities_placed settings events = grind (arith, numbers_are, numbered_size)
