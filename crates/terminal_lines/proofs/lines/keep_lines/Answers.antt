use Rattle.plan_num.proofs.Common.{◌+◌, [], ap, ◌∙◌, arith, take, enumerate_from}
use Rattle.terminal_lines.specs.TerminalPaths.{lines_among}
use Rattle.terminal_lines.proofs.LinesOfPaths.{lines_both}
use Rattle.terminal_lines.proofs.OneMore.{made_more, numbered_all, numbered_more}
use Rattle.terminal_lines.proofs.lines.keep_lines.Goals as goal

pub loop-place-preserved : goal.loop-place-preserved
loop-place-preserved c =
    let paths = c.args.paths.now in
    let place = c.loop-place.place in
    let path = c.index-paths-place.result in
    made_more (lines_among paths) (lines_both paths) [] (take place (enumerate_from 0 paths))
    (take (place + 1) (enumerate_from 0 paths)) (place, path) c.loop-place.lines.items
    c.push_line.new.lines.items
    (numbered_more 0 paths place place path path c.loop-place-test.true (omega arith)
    c.index-paths-place.is)
    c.loop-place.invariant c.in_ok-push_line.ensures

pub returns : goal.returns
returns c =
    c.loop-place.invariant
    ∙ ap (lines_among c.args.paths.now)
    (numbered_all 0 c.args.paths.now c.loop-place.place c.loop-place-test.false)
