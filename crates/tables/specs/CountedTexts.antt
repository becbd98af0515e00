-- What a list with a limit counts, as a report says it.
use Rattle.std.specs.Prelude.{ℕ, List, codes}
use Rattle.tables.specs.declared.counted.Counted.{Counted}
use Rattle.tables.specs.declared.counted.Counted.TheVariants as counted

-- what a list with a limit counts, as a report says it
abbrev pub counted_text : Counted → List ℕ
counted_text counted.Stops = codes "stops"
counted_text counted.Edges = codes "edges"
counted_text counted.Lines = codes "lines"
counted_text counted.DemandRows = codes "demand rows"
counted_text counted.Frequency = codes "frequency"
counted_text counted.PeriodicEvents = codes "periodic events"
counted_text counted.PeriodicActivities = codes "periodic activities"
counted_text counted.Trips = codes "trips"
counted_text counted.ExpandedEvents = codes "expanded events"
counted_text counted.ExpandedActivities = codes "expanded activities"
