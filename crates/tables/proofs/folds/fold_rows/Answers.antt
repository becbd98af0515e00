use Rattle.plan_num.proofs.Common.{take, get_or, slice_get, ap, subst, sym, ◌∙◌, arith, take_all}
use Rattle.tables.specs.Inputs.{broken_whys}
use Rattle.tables.specs.RowsOfTables.{records_by}
use Rattle.tables.specs.Tables.{TableRow, no_row}
use Rattle.tables.proofs.Inputs.{more, met, refused, all_met}
use Rattle.tables.proofs.folds.fold_rows.Goals as goal
use Rattle.plan_num.proofs.Lists.{none_first}

pub returns-in-Some : goal.returns-in-Some
returns-in-Some g c =
    let of = g.F.RowFold.of_cells in
    let table = c.args.table.now in
    let i = c.loop-i.i in
    let rules = g.F.RowFold.rules c.args.fold.now c.args.first in
    let first = ap (λ some. slice_get
    (broken_whys some (records_by of (take i table)) (of (get_or table i no_row).cells)) 0)
    c.loop-i.invariant.same in
    rw c.number.ensures (refused (λ (row : TableRow). row.number)
    (λ (row : TableRow). of row.cells) c.args.file rules table i no_row c.in-Some.why
    (omega arith) (sym (c.in_ok-why.ensures.first ∙ first) ∙ c.in-Some.is) c.loop-i.invariant.sound)

pub loop-i-preserved : goal.loop-i-preserved
loop-i-preserved g c =
    let of = g.F.RowFold.of_cells in
    let table = c.args.table.now in
    let i = c.loop-i.i in
    let rules = g.F.RowFold.rules c.args.fold.now c.args.first in
    let before = records_by of (take i table) in
    let row = of (get_or table i no_row).cells in
    let first = ap (λ some. slice_get (broken_whys some before row) 0) c.loop-i.invariant.same in
    record {
      same = c.in_ok-why.ensures.rules ∙ c.loop-i.invariant.same;
      knows = subst (g.F.RowFold.Knows c.args.fold.now c.take_row.new.made)
          (sym (more (λ (row : TableRow). row.number)
          (λ (row : TableRow). of row.cells) c.args.file rules table i no_row (omega arith)))
          (c.in_ok-why.ensures.knows c.in_default.is);
      sound = met (λ (row : TableRow). row.number)
          (λ (row : TableRow). of row.cells) c.args.file rules table i no_row (omega arith)
          (none_first (broken_whys rules before row)
          (sym (c.in_ok-why.ensures.first ∙ first) ∙ c.in_default.is)) c.loop-i.invariant.sound;
    }

pub returns : goal.returns
returns g c =
    let of = g.F.RowFold.of_cells in
    let table = c.args.table.now in
    let i = c.loop-i.i in
    let rules = g.F.RowFold.rules c.args.fold.now c.args.first in (
      all_met (λ (row : TableRow). row.number)
          (λ (row : TableRow). of row.cells) c.args.file rules table i no_row
          (omega arith) c.loop-i.invariant.sound,
      subst (g.F.RowFold.Knows c.args.fold.now c.loop-i.made)
          (ap (records_by of) (take_all i table (omega arith))) c.loop-i.invariant.knows,
    )
