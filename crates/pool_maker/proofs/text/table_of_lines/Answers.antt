use Rattle.plan_num.proofs.Common.{◌+◌, ◌++◌, [], ap, sym, ◌∙◌, append-nil, arith, take}
use Rattle.plan_num.proofs.Common.{enumerate_from, flat_map, flat_map-append}
use Rattle.pool_maker.specs.PoolTexts.{line_rows}
use Rattle.terminal_lines.proofs.OneMore.{made_more, numbered_all, numbered_more}
use Rattle.pool_maker.proofs.text.table_of_lines.Goals as goal

pub loop-place-preserved : goal.loop-place-preserved
loop-place-preserved c =
    let lines = c.args.lines.now in
    let place = c.loop-place.place in
    let line = c.index-lines-place.result in
    let rows = line_rows c.args.network.now in
    made_more (flat_map rows) (flat_map-append rows) [] (take place (enumerate_from 1 lines))
    (take (place + 1) (enumerate_from 1 lines)) (place + 1, line) c.loop-place.table
    c.push_line.new.table
    (numbered_more 1 lines place (place + 1) line line c.loop-place-test.true (omega arith)
    c.index-lines-place.is)
    c.loop-place.invariant
    (c.in_ok-push_line.ensures
    ∙ ap (λ some. c.loop-place.table ++ some) (sym (append-nil (rows (place + 1, line)))))

pub returns : goal.returns
returns c =
    c.loop-place.invariant
    ∙ ap (flat_map (line_rows c.args.network.now))
    (numbered_all 1 c.args.lines.now c.loop-place.place c.loop-place-test.false)
