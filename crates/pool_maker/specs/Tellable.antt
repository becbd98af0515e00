-- Inner words: lines whose rows are within their columns.
use Rattle.std.specs.Prelude.{ℕ, ℤ, pos, ◌≤◌, ◌<◌, ◌≤ℤ◌, List, length, All}
use Rattle.walks.specs.Networks.{NetworkParts}
use Rattle.terminal_lines.specs.TerminalPaths.{IsShort}

-- an id of a row
pub record IsRowId (id : ℤ) : Type 0 where
  pub low : pos 1 ≤ℤ id
  pub high : id ≤ℤ pos 1000000000

-- edges have ids that a row can have, and there are few lines, each of them with few edges
pub record AreTellable (network : NetworkParts) (lines : List (List ℕ)) : Type 0 where
  pub ids : All (λ edge. IsRowId edge.id) network.edges
  pub few : length lines ≤ 190
  pub short : All (IsShort network) lines
