use Rattle.plan_num.proofs.Common.{◌+◌, ◌++◌, refl, ap, ◌∙◌, arith, get_or, map, take}
use Rattle.plan_num.proofs.Common.{enumerate_from, map-append}
use Rattle.pool_maker.specs.PoolTexts.{line_rows, row_at}
use Rattle.terminal_lines.proofs.OneMore.{made_more, numbered_all, numbered_more}
use Rattle.pool_maker.proofs.text.push_line.Goals as goal

pub loop-place-preserved : goal.loop-place-preserved
loop-place-preserved c =
    let edges = c.edges-edge-items.result.now in
    let place = c.loop-place.place in
    let edge = get_or edges place 0 in
    let row = row_at c.args.network.now c.args.number in
    made_more (map row) (map-append row) c.args.table.now (take place (enumerate_from 1 edges))
    (take (place + 1) (enumerate_from 1 edges)) (place + 1, edge) c.loop-place.table
    c.push_row.new.table
    (numbered_more 1 edges place (place + 1) 0 edge c.loop-place-test.true (omega arith) refl)
    c.loop-place.invariant c.in_ok-push_row.ensures

pub returns : goal.returns
returns c =
    let edges = c.edges-edge-items.result.now in
    let number = c.args.number in
    c.loop-place.invariant
    ∙ ap (λ some. c.args.table.now ++ map (row_at c.args.network.now number) some)
    (numbered_all 1 edges c.loop-place.place c.loop-place-test.false)
    ∙ ap (λ line. c.args.table.now ++ line_rows c.args.network.now (number, line))
    c.edges-edge-items.ensures
