use Rattle.plan_num.proofs.Common.{◌≡◌, ◌+◌, ◌≤◌, [], ◌∷◌, ◌++◌, Some, length, get_or, slice_get}
use Rattle.plan_num.proofs.Common.{take, unsigned_abs, ap, subst, sym, ◌∙◌, arith, All-get_or}
use Rattle.plan_num.proofs.Common.{fill_by_all, sum_by_push}
use Rattle.tables.specs.declared.file_id.FileId.TheVariants as file
use Rattle.tables.specs.declared.refusal.Refusal.TheVariants as refusal
use Rattle.tables.proofs.Common.{od_columns, records, broken_whys, no_row, InColumns, row_met}
use Rattle.tables.proofs.Common.{row_refused, rows_met, records_all, records_more}
use Rattle.demand_load.specs.Demand.{demand_input, load_of, row_load}
use Rattle.demand_load.proofs.SmallLoads.{customers_in}
use Rattle.demand_load.proofs.demand.loads_of_rows.Goals as goal
use Rattle.plan_num.proofs.Lists.{none_first}

pub note_row-requires-clause-low : goal.note_row-requires-clause-low
note_row-requires-clause-low c =
    let table = c.args.table.now in grind (arith, All-get_or, customers_in, get_or)

pub note_row-requires-clause-room : goal.note_row-requires-clause-room
note_row-requires-clause-room c =
    let table = c.args.table.now in grind (arith, All-get_or, unsigned_abs, customers_in, get_or)

pub returns-in-Some : goal.returns-in-Some
returns-in-Some c =
    let table = c.args.table.now in
    let input = demand_input c.args.network.now in
    let broken = sym c.in_ok-why.ensures.why ∙ c.in-Some.is in
    row_refused input table c.loop-i.i c.in-Some.why (omega arith)
    (subst (λ row. slice_get (broken_whys input.row_rules [] row) 0 ≡ Some c.in-Some.why)
    c.read-row.ensures broken) c.loop-i.invariant.sound
    ∙ ap (λ number. Some (refusal.BadRow file.Od number c.in-Some.why)) (sym c.number.ensures)

pub loop-i-preserved : goal.loop-i-preserved
loop-i-preserved c =
    let table = c.args.table.now in
    let network = c.args.network.now in
    let input = demand_input network in
    let i = c.loop-i.i in
    let row = c.read-row.result in
    let before = records input (take i table) in
    let cells = All-get_or (λ row. InColumns od_columns row.cells) table c.loop-i.i no_row
    (omega arith) c.requires.cells in
    let few : unsigned_abs row.customers ≤ 1000000000000 =
    subst (λ row. unsigned_abs row.customers ≤ 1000000000000) (sym c.read-row.ensures)
    (customers_in (get_or table c.loop-i.i no_row).cells cells).1 in
    let all = rw c.in_default.is at c.in_ok-why.ensures.all in
    let more : before ++ row ∷ [] ≡ records input (take (i + 1) table) =
    ap (λ some. before ++ some ∷ []) c.read-row.ensures
    ∙ sym (records_more input table i (omega arith)) in
    record {
      sound = row_met input table i (omega arith)
          (subst (λ some. broken_whys input.row_rules [] some ≡ []) c.read-row.ensures
          (none_first _ (sym c.in_ok-why.ensures.why ∙ c.in_default.is)))
          c.loop-i.invariant.sound;
      known = c.in_ok-why.ensures.known;
      wanted = c.in_ok-why.ensures.wanted;
      few = omega (arith, all, few, c.loop-i.invariant.few);
      loads = λ index. (rw c.in_default.is at c.in_ok-why.ensures.added) index
          ∙ ap (λ n. n + row_load network index row) (c.loop-i.invariant.loads index)
          ∙ sym (sum_by_push (row_load network index) before row)
          ∙ ap (λ rows. load_of network rows index) more;
    }

pub loads_of_wanted-requires-clause-few : goal.loads_of_wanted-requires-clause-few
loads_of_wanted-requires-clause-few c = omega (arith, c.loop-i.invariant.few, c.requires.few)

pub returns : goal.returns
returns c =
    let table = c.args.table.now in
    let network = c.args.network.now in
    let input = demand_input network in
    let i = c.loop-i.i in (
      rows_met input table i (omega arith) c.loop-i.invariant.sound,
      fill_by_all (load_of network (records input table)) c.in_ok-loads.loads.items
          (length network.edges) 0
          (omega (arith, c.in_ok-loads.ensures.size, c.in_ok-loads.loads.ok.0))
          (λ index h. c.in_ok-loads.ensures.loads index h ∙ c.loop-i.invariant.loads index
          ∙ ap (λ rows. load_of network rows index) (records_all input table i (omega arith))),
    )
