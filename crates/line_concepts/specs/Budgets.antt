-- What is taken of a listing within a budget of entries.
use Rattle.std.specs.Prelude.{ℕ, min, List, length, map}
use Rattle.line_concepts.specs.declared.node.Node.{Node}
use Rattle.line_concepts.specs.Listings.{Entry}

-- the nodes of entries
abbrev pub nodes_in : List Entry → List Node
nodes_in entries = map (λ entry. entry.node) entries

-- how many entries are listed within it
abbrev pub entries_listed : ℕ → List Entry → ℕ
entries_listed budget entries = min budget (length entries)
