-- The paths are those from the terminals so far.
use Rattle.plan_num.proofs.Common.{◌≡◌, filter_map, take, flat_map}
use Rattle.terminal_lines.specs.Terminals.{way_between}
use Rattle.terminal_lines.proofs.paths.paths_between.Given as goal

abbrev pub invariant-loop-from : goal.invariant-loop-from
invariant-loop-from l =
    l.paths.items ≡ flat_map (λ from. filter_map (way_between l.network from) l.terminals)
    (take l.from-index l.terminals)
