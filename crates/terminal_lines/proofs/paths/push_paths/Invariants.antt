-- The paths are those to the terminals so far.
use Rattle.plan_num.proofs.Common.{◌≡◌, ◌++◌, filter_map, take}
use Rattle.terminal_lines.specs.Terminals.{way_between}
use Rattle.terminal_lines.proofs.paths.push_paths.Given as goal

abbrev pub invariant-loop-to : goal.invariant-loop-to
invariant-loop-to l =
    l.paths.items ≡ l.initial.paths.items
    ++ filter_map (way_between l.network l.from) (take l.to-index l.terminals)
