-- The edges at each stop.
use Rattle.std.specs.Prelude.{ℕ, ◌≡◌, ◌<◌, List, [], ◌∷◌, ◌++◌, length, slice_get, slice_set, slice_index_or, Some, Contains}
use Rattle.walks.specs.declared.edge.Edge.{Edge}
use Rattle.walks.specs.Walks.{across}

-- the edge of an index can be driven from a stop
pub record CanLeave (edges : List Edge) (stop index : ℕ) : Type 0 where
  pub edge : Edge
  pub is : slice_get edges index ≡ Some edge
  pub next : ℕ
  pub over : across edge stop ≡ Some next

-- indexes are those of the edges that can be driven from a stop
pub record AreEdgesAt (edges : List Edge) (stop : ℕ) (indexes : List ℕ) : Type 0 where
  pub own : (index : ℕ) → Contains indexes index → CanLeave edges stop index
  pub all : (index : ℕ) → CanLeave edges stop index → Contains indexes index

-- of each stop the edges at it
pub record AreStopEdges (stops : ℕ) (edges : List Edge) (rows : List (List ℕ)) : Type 0 where
  pub size : length rows ≡ stops
  pub at : (stop : ℕ) → stop < stops → AreEdgesAt edges stop (slice_index_or rows stop [])

-- one index more at a stop
abbrev pub NotesAt : ℕ → ℕ → List (List ℕ) → List (List ℕ) → Type 0
NotesAt stop index old new = new ≡ slice_set old stop (slice_index_or old stop [] ++ index ∷ [])
