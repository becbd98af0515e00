use Rattle.plan_num.proofs.Common.{◌<◌, ◌≤◌, ◌==◌, ◌+◌, nat_lt, true, false, length, pos, get_or}
use Rattle.plan_num.proofs.Common.{slice_get, unsigned_abs, ap, sym, ◌∙◌, subst, Some, Err, arith}
use Rattle.plan_num.proofs.Common.{and_parts, ltb-true, lt-ltb, le-ltb}
use Rattle.tables.specs.declared.row_why.RowWhy.TheVariants as why
use Rattle.tables.proofs.Common.{no_row}
use Rattle.link_plans.proofs.Common.{PotentialParts, AreOver}
use Rattle.flow_potentials.specs.PotentialTables.{gaps_from, column_of, potentials_in, PotentialsGive}
use Rattle.flow_potentials.proofs.Tables.{gap_found, no_gap, gap_end, column_more, column_all}
use Rattle.flow_potentials.proofs.Tables.{table_potentials, table_over}
use Rattle.flow_potentials.proofs.table_reading.read_rows.Goals as goal

pub returns-then-not-is_trip_row-clause-read : goal.returns-then-not-is_trip_row-clause-read
returns-then-not-is_trip_row-clause-read c =
    let within : c.loop-row.row < length c.args.table.now =
    omega (arith, c.loop-row-test.true, c.len-row-end.ensures.len) in
    subst (λ fault. PotentialsGive (gaps_from c.args.trips 0 c.args.table.now)
    (potentials_in c.args.table.now) (Err fault)) (sym c.gap.ensures)
    (gap_found c.args.trips c.args.table.now c.loop-row.row c.loop-row.invariant.gaps within
    (sym c.is_trip_row.ensures ∙ c.if-not-is_trip_row.true)
    ∙ ap (λ n. Some (record { row = n; why = why.OrderGap })) (sym c.number.ensures))

pub loop-row-preserved : goal.loop-row-preserved
loop-row-preserved c =
    let table = c.args.table.now in
    let row = c.loop-row.row in
    let within : c.loop-row.row < length c.args.table.now =
    omega (arith, c.loop-row-test.true, c.len-row-end.ensures.len) in
    let form = sym c.is_trip_row.ensures ∙ c.if-not-is_trip_row.false in
    let early = ltb-true row c.args.trips (and_parts
    (unsigned_abs (get_or (get_or table row no_row).cells 0 (pos 0)) == row + 1) (nat_lt row c.args.trips) form).1 in
    record {
      gaps = no_gap c.args.trips table row c.loop-row.invariant.gaps within form;
      few = omega (arith, early);
      u = column_more 1 table row c.loop-row.u.items _ c.number-in-loop-row.result within
          c.loop-row.invariant.u c.number-in-loop-row.ensures c.in_ok-push.ensures.items;
      v = column_more 2 table row c.loop-row.v.items _ c.number-in-loop-row-2.result within
          c.loop-row.invariant.v c.number-in-loop-row-2.ensures c.in_ok-push-2.ensures.items;
    }

pub returns-then-len-trips-clause-read : goal.returns-then-len-trips-clause-read
returns-then-len-trips-clause-read c =
    let past : length c.args.table.now ≤ c.loop-row.row =
    omega (arith, c.loop-row-test.false, c.len-row-end.ensures.len) in
    let early : c.loop-row.row < c.args.trips = omega (
      arith,
      c.loop-row.auto.row-end,
      c.len-row-end.ensures.len,
      c.len.ensures.len,
      c.if-len-trips.true,
    ) in
    subst (λ fault. PotentialsGive (gaps_from c.args.trips 0 c.args.table.now)
    (potentials_in c.args.table.now) (Err fault)) (sym c.gap-then-len-trips.ensures)
    (ap (λ all. slice_get all 0) (gap_end c.args.trips c.args.table.now c.loop-row.row
    c.loop-row.invariant.gaps past true (lt-ltb c.loop-row.row c.args.trips early)))

pub of_numbers-requires : goal.of_numbers-requires
of_numbers-requires c =
    let past : length c.args.table.now ≤ c.loop-row.row =
    omega (arith, c.loop-row-test.false, c.len-row-end.ensures.len) in
    table_potentials c.args.table.now c.requires c.loop-row.u.items c.loop-row.v.items
    (column_all 1 c.args.table.now c.loop-row.row c.loop-row.u.items past c.loop-row.invariant.u)
    (column_all 2 c.args.table.now c.loop-row.row c.loop-row.v.items past c.loop-row.invariant.v)

pub returns-clause-read : goal.returns-clause-read
returns-clause-read c =
    let past : length c.args.table.now ≤ c.loop-row.row =
    omega (arith, c.loop-row-test.false, c.len-row-end.ensures.len) in
    let late : c.args.trips ≤ c.loop-row.row = omega (arith, past, c.len.ensures.len, c.if-len-trips.false) in
    let u_is = column_all 1 c.args.table.now c.loop-row.row c.loop-row.u.items past c.loop-row.invariant.u in
    let v_is = column_all 2 c.args.table.now c.loop-row.row c.loop-row.v.items past c.loop-row.invariant.v in
    let of_u : _ → PotentialParts = λ u. record { u = u; v = c.loop-row.v.items } in
    let of_v : _ → PotentialParts = λ v. record { u = column_of 1 c.args.table.now; v = v } in (
      gap_end c.args.trips c.args.table.now c.loop-row.row c.loop-row.invariant.gaps past false
          (le-ltb c.loop-row.row c.args.trips late),
      c.of_numbers.ensures ∙ ap of_u u_is ∙ ap of_v v_is,
    )

pub returns-clause-each : goal.returns-clause-each
returns-clause-each c =
    let past : length c.args.table.now ≤ c.loop-row.row =
    omega (arith, c.loop-row-test.false, c.len-row-end.ensures.len) in
    subst (AreOver c.args.trips) (sym c.of_numbers.ensures)
    (table_over c.args.table.now c.args.trips c.loop-row.u.items c.loop-row.v.items
    (column_all 1 c.args.table.now c.loop-row.row c.loop-row.u.items past c.loop-row.invariant.u)
    (column_all 2 c.args.table.now c.loop-row.row c.loop-row.v.items past c.loop-row.invariant.v)
    (omega (
      arith,
      c.loop-row.auto.row-end,
      c.len-row-end.ensures.len,
      c.len.ensures.len,
      c.if-len-trips.false,
      c.loop-row.invariant.few,
    )))
