use Rattle.plan_num.proofs.Common.{◌≡◌, ◌<◌, ◌||◌, length, ℤ, not, Vec, Global, ap, sym, ◌∙◌, arith}
use Rattle.plan_num.proofs.Common.{w64, contains, list_any, int_eq}
use Rattle.std.proofs.lemmas.Int.{to_z-of_z}
use Rattle.tables.proofs.Common.{TableRow, no_row}
use Rattle.evaluators.specs.declared.rows.LineRow.{LineRow}
use Rattle.evaluators.specs.StatisticInputs.{line_row}
use Rattle.evaluators.proofs.FirstRowFacts.{no_firsts}
use Rattle.evaluators.proofs.SeenLines.{known_more, first_more, first_passed}
use Rattle.evaluators.proofs.first_rows.first_rows.Goals.{then-branch+in_ok-push, else-branch}
use Rattle.evaluators.proofs.first_rows.first_rows.Goals as goal

pub loop-i-init : goal.loop-i-init
loop-i-init c = record {
  seen = λ id. ap (list_any (int_eq id)) c.new-seen.ensures.empty;
  rows = c.new-firsts.ensures.items ∙ sym (no_firsts (λ (row : LineRow). row.line));
}

pub loop-i-preserved : goal.loop-i-preserved
loop-i-preserved c =
    let key = λ (row : LineRow). row.line in
    let of = λ (row : TableRow). line_row row.cells in
    let table = c.args.table.now in
    let i = c.loop-i.i in
    let inside : i < length table = omega (arith, c.loop-i-test.true, c.len-i-end.ensures.len) in
    let row = c.read-row.result in
    let old = contains int_eq c.loop-i.seen in
    let own = to_z-of_z w64 row.line (record { sfits = omega (arith, c.read-row.type_inv) }) in
    let adds : (id : ℤ) → contains int_eq c.note.new.seen id ≡ (old id || int_eq id row.line) =
    λ id. c.in_ok-note.ensures.noted id ∙ ap (λ q. old id || int_eq id q) own in
    let new = c.in_ok-note.ensures.new ∙ ap (λ q. not (old q)) own in
    let seen = known_more key of table i no_row inside old
    (contains int_eq c.note.new.seen) row c.read-row.ensures c.loop-i.invariant.seen adds in
    elim c.if-branch.branch [
      | then-branch+in_ok-push w ↦
          record {
            seen = seen;
            rows = first_more key of table i no_row inside old c.in_ok-note.field-0 row
                c.read-row.ensures c.loop-i.invariant.seen new c.loop-i.firsts.items _
                c.loop-i.invariant.rows w.if-branch.true (ap (λ (v : Vec LineRow Global). v.items)
                w.firsts-is ∙ w.in_ok-push.ensures.items);
          }
      | else-branch w ↦
          record {
            seen = seen;
            rows = ap (λ (v : Vec LineRow Global). v.items) w.firsts-is ∙ first_passed key of
                table i no_row inside old
                c.in_ok-note.field-0 row c.read-row.ensures c.loop-i.invariant.seen new
                c.loop-i.firsts.items c.loop-i.invariant.rows w.if-branch.false;
          }
    ]
