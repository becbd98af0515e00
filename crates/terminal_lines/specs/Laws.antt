-- What holds of paths between terminals, whatever the network is.
use Rattle.std.specs.Prelude.{ℤ, ◌≡◌, true, List, All, Any}
use Rattle.walks.specs.Networks.{IsNetwork, NetworkParts}
use Rattle.terminal_lines.specs.TerminalPaths.{are_stops, lies_in, lines_between, paths_of}

-- Each path lies in a line, since no two paths between terminals lie in one another: a walk that
-- goes over each edge once tells its two ends by its edges. The terminals are stops of the network.
abbrev pub EachPathIsServed : Type 0
EachPathIsServed = (network : NetworkParts) (terminals : List ℤ) → IsNetwork network
    → are_stops network.stops terminals ≡ true
    → All (λ path. Any (λ line. lies_in path line ≡ true) (lines_between network terminals))
    (paths_of network terminals)
