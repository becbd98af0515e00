-- Walks over the edges of a network, each driven either way, and least sums over them.
use Rattle.std.specs.Prelude.{ℕ, ℤ, pos, zero, suc, ◌≡◌, ◌≤◌, ◌<◌, ◌==◌, if◌then◌else◌, min, List, [], ◌∷◌, ◌++◌, length, map, fold, sum, get_or, unsigned_abs, Option, Some, None, option_map, option_and_then, All, Contains, IfSome, ◌≤ℤ◌}
use Rattle.std.specs.List.{flat_map, range_with_len}
use Rattle.walks.specs.declared.edge.Edge.{Edge}
use Rattle.walks.specs.Networks.{NetworkParts}

-- the stop at the other end of an edge, where a stop is one of its ends
abbrev pub across : Edge → ℕ → Option ℕ
across edge stop =
    if edge.left == stop then Some edge.right
    else (if edge.right == stop then Some edge.left else None)

-- where the walk over edges from a stop ends, where they join end to end from there
abbrev pub end_from : ℕ → List Edge → Option ℕ
end_from stop edges = fold (λ end edge. option_and_then (across edge) end) (Some stop) edges

-- a walk between two stops: edges of a network that join end to end from the one to the other;
-- without an edge it stays
pub record IsWalk (edges : List Edge) (from to : ℕ) (walk : List Edge) : Type 0 where
  pub there : All (λ edge. Contains edges edge) walk
  pub joined : end_from from walk ≡ Some to

-- the length of an edge in millionths, and the least minutes of a drive over it
abbrev pub edge_length : Edge → ℕ
edge_length edge = unsigned_abs edge.length

abbrev pub edge_time : Edge → ℕ
edge_time edge = unsigned_abs edge.lower

-- the sum of a walk, where each edge counts with its length or with its time
abbrev pub walk_sum : (Edge → ℕ) → List Edge → ℕ
walk_sum weight walk = sum (map weight walk)

-- a sum is the least over all walks between two stops, and one of them has it; it is none where
-- there is no walk
abbrev pub IsLeastSum : List Edge → (Edge → ℕ) → ℕ → ℕ → Option ℕ → Type 0
IsLeastSum edges weight from to None = (walk : List Edge) → ¬ IsWalk edges from to walk
IsLeastSum edges weight from to (Some least) =
    ((walk : List Edge) × IsWalk edges from to walk × (walk_sum weight walk ≡ least))
    × ((walk : List Edge) → IsWalk edges from to walk → least ≤ walk_sum weight walk)

-- the walk without an edge, where it ends where it began
abbrev pub staying : ℕ → ℕ → List (List Edge)
staying from to = if from == to then [] ∷ [] else []

-- walks that go on behind an edge, where it can be driven
abbrev pub behind : Edge → Option (List (List Edge)) → List (List Edge)
behind edge None = []
behind edge (Some walks) = map (λ walk. edge ∷ walk) walks

-- all walks between two stops of so many edges at most
unfoldable pub walks_within : List Edge → ℕ → ℕ → ℕ → List (List Edge)
walks_within edges zero from to = staying from to
walks_within edges (suc more) from to =
    staying from to ++ flat_map
    (λ edge. behind edge
    (option_map (λ next. walks_within edges more next to) (across edge from)))
    edges

-- the least of some numbers, where there are some
abbrev pub or_less : ℕ → Option ℕ → Option ℕ
or_less number None = Some number
or_less number (Some other) = Some (min number other)

unfoldable pub least_of : List ℕ → Option ℕ
least_of [] = None
least_of (number ∷ numbers) = or_less number (least_of numbers)

-- the least sum between two stops of a network. No walk with more edges than there are stops has a
-- lesser one.
unfoldable pub least_sum : NetworkParts → (Edge → ℕ) → ℕ → ℕ → Option ℕ
least_sum network weight from to =
    least_of (map (walk_sum weight) (walks_within network.edges (length network.stops) from to))

-- the least sums from a stop to each stop, in the order of the stops
abbrev pub least_sums : NetworkParts → (Edge → ℕ) → ℕ → List (Option ℤ)
least_sums network weight from =
    map (λ to. option_map pos (least_sum network weight from to))
    (range_with_len 0 (length network.stops))

-- each of some sums, one for each stop, is the least over all walks from a stop to it
abbrev pub AreLeastSums : NetworkParts → (Edge → ℕ) → ℕ → List (Option ℤ) → Type 0
AreLeastSums network weight from sums =
    (to : ℕ) → to < length network.stops
    → IsLeastSum network.edges weight from to (option_map unsigned_abs (get_or sums to None))

-- a sum that is not above a limit
pub record IsSumUpTo (limit : ℕ) (sum : ℤ) : Type 0 where
  pub low : pos 0 ≤ℤ sum
  pub high : sum ≤ℤ pos limit

-- each of some sums, where it is there, is not above a limit
abbrev pub AreSumsUpTo : ℕ → List (Option ℤ) → Type 0
AreSumsUpTo limit sums = All (λ sum. IfSome sum (IsSumUpTo limit)) sums
