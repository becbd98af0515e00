-- Inner words: terminals with the indexes of their stops, and the paths between them.
use Rattle.std.specs.Prelude.{ℕ, ℤ, ◌<◌, if◌then◌else◌, int_lt, List, length, filter_map, Option}
use Rattle.std.specs.Prelude.{None, All}
use Rattle.std.specs.List.{flat_map}
use Rattle.walks.specs.Networks.{NetworkParts}
use Rattle.walks.specs.RisingIds.{index_in}
use Rattle.walks.specs.Paths.{way}
use Rattle.terminal_lines.specs.declared.terminal.Terminal.{Terminal}

-- the terminal of an id
abbrev pub terminal_of : List ℤ → ℤ → Terminal
terminal_of stops id = record { id = id; stop = index_in stops id }

-- terminals are stops of a network
abbrev pub AreStops : NetworkParts → List Terminal → Type 0
AreStops network terminals = All (λ terminal. terminal.stop < length network.stops) terminals

-- the path between two terminals, where the second has the greater id and a walk joins them
abbrev pub way_between : NetworkParts → Terminal → Terminal → Option (List ℕ)
way_between network from to =
    if int_lt from.id to.id then way network from.stop to.stop else None

-- the paths between terminals
abbrev pub paths_over : NetworkParts → List Terminal → List (List ℕ)
paths_over network terminals =
    flat_map (λ from. filter_map (way_between network from) terminals) terminals
