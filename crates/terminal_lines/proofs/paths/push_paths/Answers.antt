use Rattle.plan_num.proofs.Common.{◌+◌, filter_map, get_or, take, take_more, filter_map-append}
use Rattle.terminal_lines.specs.Terminals.{way_between}
use Rattle.terminal_lines.proofs.OneMore.{made_more}
use Rattle.terminal_lines.proofs.Ways.{listed, no_terminal}
use Rattle.terminal_lines.proofs.paths.push_paths.Goals as goal

pub loop-to-preserved : goal.loop-to-preserved
loop-to-preserved c =
    let terminals = c.args.terminals.now in
    let i = c.loop-to.to-index in
    let to = get_or terminals i no_terminal in
    let found = way_between c.args.network.now c.args.from.now in
    made_more (filter_map found) (filter_map-append found) c.args.paths.now.items (take i terminals)
    (take (i + 1) terminals) to c.loop-to.paths.items c.push_found.new.paths.items
    (take_more terminals i no_terminal c.loop-to-test.true) c.loop-to.invariant
    (listed c.loop-to.paths.items c.push_found.new.paths.items c.in_ok-path_between.field-0
    (found to)
    c.in_ok-path_between.ensures
    c.in_ok-push_found.ensures)
