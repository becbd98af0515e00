-- The columns of the kinds of tables.
use Rattle.std.specs.Prelude.{ℕ, pos, ◌*◌, List, [], ◌∷◌}
use Rattle.tables.specs.declared.column.ColumnKind.{ColumnKind}
use Rattle.tables.specs.declared.column.ColumnKind.TheVariants as kind
use Rattle.tables.specs.declared.words.WordTable.{WordTable}
use Rattle.tables.specs.declared.words.WordTable.TheVariants as table
use Rattle.plan_num.specs.declared.number.TheConstants.{NUMBER_LIMIT}

-- a whole number from 0 on
abbrev pub whole : ℕ → ColumnKind
whole max = kind.Whole (pos 0) (pos max)

-- a number from 0 on, with a limit in units
abbrev pub fixed : ℕ → ColumnKind
fixed max = kind.Fixed (pos 0) (pos (max * 1000000))

-- the id of a thing
abbrev pub id : ColumnKind
id = kind.Whole (pos 1) (pos 1000000000)

-- an id, or 0 for none
abbrev pub id_or_none : ColumnKind
id_or_none = whole 1000000000

-- a time in minutes
abbrev pub time : ColumnKind
time = whole 1000000000

-- a bound in minutes
abbrev pub bound : ColumnKind
bound = whole 100000

-- a word of a table
abbrev pub word : WordTable → ColumnKind
word words = kind.Word words

-- the columns of stops
abbrev pub stop_columns : List ColumnKind
stop_columns = id ∷ kind.Skip ∷ kind.Skip ∷ kind.Skip ∷ kind.Skip ∷ []

-- the columns of edges
abbrev pub edge_columns : List ColumnKind
edge_columns = id ∷ id ∷ id ∷ fixed 10000 ∷ whole 10000 ∷ whole 10000 ∷ []

-- the columns of loads with their bounds of frequency
abbrev pub load_columns : List ColumnKind
load_columns = id ∷ fixed 1000000000000 ∷ whole 1000 ∷ whole 1000 ∷ []

-- the columns of demand
abbrev pub od_columns : List ColumnKind
od_columns = id ∷ id ∷ fixed 1000000 ∷ []

-- the columns of lines of a pool
abbrev pub pool_columns : List ColumnKind
pool_columns = id ∷ id ∷ id ∷ []

-- the columns of costs of lines
abbrev pub pool_cost_columns : List ColumnKind
pool_cost_columns = id ∷ fixed 1000000000000 ∷ fixed 1000000000000 ∷ []

-- the columns of a line concept
abbrev pub concept_columns : List ColumnKind
concept_columns = id ∷ id ∷ id ∷ whole 1000 ∷ []

-- the columns of the tree that certifies a line concept
abbrev pub tree_columns : List ColumnKind
tree_columns = word table.NodeKind ∷ id_or_none ∷ whole 1000000000 ∷ fixed 1000000000000 ∷ []

-- the columns of periodic events
abbrev pub events_p_columns : List ColumnKind
events_p_columns = id ∷ word table.EventKind ∷ id ∷ id ∷ word table.Direction ∷ id ∷ []

-- the columns of periodic activities
abbrev pub activities_p_columns : List ColumnKind
activities_p_columns = id ∷ word table.PeriodicKind ∷ id ∷ id ∷ bound ∷ bound ∷ []

-- the columns of a periodic timetable
abbrev pub times_p_columns : List ColumnKind
times_p_columns = id ∷ time ∷ []

-- the columns of expanded events
abbrev pub events_x_columns : List ColumnKind
events_x_columns = id ∷ id ∷ word table.EventKind ∷ time ∷ id ∷ []

-- the columns of expanded activities
abbrev pub activities_x_columns : List ColumnKind
activities_x_columns = id ∷ id ∷ word table.ActivityKind ∷ id ∷ id ∷ bound ∷ bound ∷ []

-- the columns of trips
abbrev pub trips_columns : List ColumnKind
trips_columns = id ∷ id ∷ id ∷ time ∷ id ∷ id ∷ id ∷ time ∷ id ∷ []

-- the columns of a vehicle schedule
abbrev pub schedule_columns : List ColumnKind
schedule_columns = id ∷ id ∷ id ∷ word table.ScheduleKind ∷ id ∷ id ∷ id ∷ time ∷ id ∷ id ∷ id ∷ time ∷ id_or_none ∷ []

-- the columns of the potentials that certify a vehicle schedule
abbrev pub potential_columns : List ColumnKind
potential_columns = id ∷ fixed 1000000000000 ∷ fixed 1000000000000 ∷ []

-- the columns of a disposition timetable
abbrev pub disposed_columns : List ColumnKind
disposed_columns = id ∷ whole NUMBER_LIMIT ∷ []

-- the columns of the reasons that certify a disposition
abbrev pub reasons_columns : List ColumnKind
reasons_columns = id ∷ word table.ReasonKind ∷ id_or_none ∷ []

-- the columns of delays
abbrev pub delays_columns : List ColumnKind
delays_columns = id ∷ whole 1000000 ∷ []
