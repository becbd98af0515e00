-- Words that stand in the columns of tables.
use Rattle.std.specs.Prelude.{ℕ, List, [], ◌∷◌, codes}
use Rattle.tables.specs.declared.words.WordTable.{WordTable}
use Rattle.tables.specs.declared.words.WordTable.TheVariants as table

-- the words of a table, by their places from 0
abbrev pub table_words : WordTable → List (List ℕ)
table_words table.EventKind = codes "departure" ∷ codes "arrival" ∷ []
table_words table.ActivityKind = codes "drive" ∷ codes "wait" ∷ codes "change" ∷ codes "sync" ∷ []
table_words table.PeriodicKind =
    codes "drive" ∷ codes "wait" ∷ codes "change" ∷ codes "sync" ∷ codes "headway" ∷ []
table_words table.Direction = codes ">" ∷ codes "<" ∷ []
table_words table.NodeKind = codes "split" ∷ codes "empty" ∷ codes "bound" ∷ codes "mult" ∷ codes "point" ∷ []
table_words table.ScheduleKind = codes "TRIP" ∷ codes "EMPTY" ∷ []
table_words table.ReasonKind = codes "source" ∷ codes "activity" ∷ codes "turn" ∷ []
table_words table.WaitKind = codes "cost" ∷ codes "keep" ∷ codes "drop" ∷ codes "split" ∷ codes "leaf" ∷ []
