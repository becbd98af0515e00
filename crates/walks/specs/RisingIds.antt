-- Ids in their order, and entries by them.
use Rattle.std.specs.Prelude.{ℕ, ℤ, List, [], ◌∷◌, map, position}
use Rattle.std.specs.Option.{unwrap_or}
use Rattle.std.specs.Ordering.{int_eq, int_cmp}
use Rattle.std.specs.FinMap.{put}
use Rattle.std.specs.Map.{keys_of}

-- entries by id rising: each is put where its id belongs
unfoldable pub by_id : {X : Type 0} → List (ℤ × X) → List (ℤ × X)
by_id [] = []
by_id (entry ∷ entries) = put int_cmp entry.0 entry.1 (by_id entries)

-- ids, rising
abbrev pub rising : List ℤ → List ℤ
rising ids = keys_of (by_id (map (λ id. (id, tt {0})) ids))

-- the index of the stop of an id
abbrev pub index_in : List ℤ → ℤ → ℕ
index_in stops id = unwrap_or (position (int_eq id) stops) 0
