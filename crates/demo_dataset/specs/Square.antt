-- The network of a demo dataset in plain words.
use Rattle.std.specs.Prelude.{ℕ, ◌+◌, ◌-◌, ◌*◌, ◌≡◌, ◌==◌, ◌&&◌, nat_le, nat_lt, if◌then◌else◌}
use Rattle.std.specs.Prelude.{Bool, true, List, [], ◌∷◌, map}
use Rattle.std.specs.List.{flat_map, list_all}
use Rattle.demo_dataset.specs.declared.edge.Edge.{Edge}
use Rattle.demo_dataset.specs.Grid.{one_to, stop_id, edges_of, lines_of}

-- an edge leads from a stop to a later one of so many
abbrev pub leads_on : (stops : ℕ) → Edge → Bool
leads_on stops edge = nat_le 1 edge.left && nat_lt edge.left edge.right && nat_le edge.right stops

-- each of these edges begins where the one before it ends, and the first one at this stop
abbrev pub goes_from : (stop : ℕ) → List Edge → Bool
goes_from stop [] = true
goes_from stop (edge ∷ rest) = edge.left == stop && goes_from edge.right rest

-- these edges are a walk
abbrev pub is_walk : List Edge → Bool
is_walk [] = true
is_walk (edge ∷ rest) = goes_from edge.right rest

-- stops, edges and lines are numbered from 1 on, in the order in which they are listed; edges lead
-- to later stops, and lines are walks
pub record IsNumbered (size : ℕ) : Type 0 where
  pub stops :
      flat_map (λ row. map (stop_id size row) (one_to size)) (one_to size) ≡ one_to (size * size)
  pub edges : map (λ edge. edge.id) (edges_of size) ≡ one_to (2 * (size * (size - 1)))
  pub lines : map (λ line. line.id) (lines_of size)
      ≡ one_to (if nat_le 2 size then 2 * size + 2 else 0)
  pub ends : list_all (leads_on (size * size)) (edges_of size) ≡ true
  pub walks : list_all (λ line. is_walk line.edges) (lines_of size) ≡ true
