use Rattle.plan_num.proofs.Common.{◌&&◌, ◌+◌, arith, ap, sym, ◌∙◌}
use Rattle.line_search.proofs.SamePlaces.{same_behind, same_from}
use Rattle.line_search.proofs.pool_rows.have_same_places.Goals as goal

pub returns-then-not-is_same_place : goal.returns-then-not-is_same_place
returns-then-not-is_same_place c =
    let rows = c.args.rows.now in
    let table = c.args.table.now in
    let i = c.loop-row.row in
    sym (c.loop-row.invariant.so_far
    ∙ same_behind rows table i _ c.loop-row-test.true
    (omega (arith, c.loop-row-test.true, c.loop-row.invariant.long))
    ∙ ap (λ same. same && same_from rows table (i + 1) (i + 1))
    (sym c.if-not-is_same_place.ensures))

pub loop-row-preserved : goal.loop-row-preserved
loop-row-preserved c =
    let rows = c.args.rows.now in
    let table = c.args.table.now in
    let i = c.loop-row.row in
    record {
      so_far = c.loop-row.invariant.so_far
          ∙ same_behind rows table i _ c.loop-row-test.true
          (omega (arith, c.loop-row-test.true, c.loop-row.invariant.long))
          ∙ ap (λ same. same && same_from rows table (i + 1) (i + 1))
          (sym c.if-not-is_same_place.ensures);
      long = c.loop-row.invariant.long;
    }
