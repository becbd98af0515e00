-- Why a row is refused, as a report says it.
use Rattle.std.specs.Prelude.{ℕ, List, ◌++◌, codes, decimal}
use Rattle.tables.specs.declared.row_why.RowWhy.{RowWhy}
use Rattle.tables.specs.declared.row_why.RowWhy.TheVariants as why

-- why a row is refused, as a report says it
abbrev pub why_text : RowWhy → List ℕ
why_text (why.FieldCount found) = codes "wrong number of fields"
why_text (why.NotNumber column) = codes "column " ++ decimal column ++ codes " is not a number"
why_text (why.OutOfRange column) = codes "column " ++ decimal column ++ codes " is out of range"
why_text (why.UnknownWord column) = codes "column " ++ decimal column ++ codes " is an unknown word"
why_text why.ByteOrderMark = codes "byte order mark"
why_text why.RepeatedId = codes "repeated id"
why_text why.UnknownStop = codes "unknown stop"
why_text why.UnknownEdge = codes "unknown edge"
why_text why.UnknownLine = codes "unknown line"
why_text why.UnknownEvent = codes "unknown event"
why_text why.UnknownActivity = codes "unknown activity"
why_text why.LoopEdge = codes "loop edge"
why_text why.ZeroBound = codes "zero bound"
why_text why.BoundsCrossed = codes "bounds crossed"
why_text why.MissingEdge = codes "missing edge"
why_text why.MissingLine = codes "missing line"
why_text why.MissingEvent = codes "missing event"
why_text why.NoPath = codes "no path"
why_text why.OrderGap = codes "order gap"
why_text why.RepeatedEdge = codes "repeated edge"
why_text why.BrokenLine = codes "broken line"
why_text why.FrequencyDiffers = codes "frequency differs"
why_text why.PoolDiffers = codes "differs from the pool"
why_text why.NotFeasible = codes "not feasible"
why_text why.TripsDiffer = codes "differs from the trips"
why_text why.CannotFollow = codes "cannot follow"
why_text why.OutOfPeriod = codes "out of period"
why_text why.Backward = codes "backward"
why_text why.StraySync = codes "stray sync"
why_text why.BrokenRun = codes "broken run"
why_text why.Unjoined = codes "unjoined"
why_text why.StrayActivity = codes "stray activity"
