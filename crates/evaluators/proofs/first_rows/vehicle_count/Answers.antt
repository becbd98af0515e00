use Rattle.plan_num.proofs.Common.{length, pos, not, ap, ◌∙◌, sym, arith, ◌||◌, w64, contains}
use Rattle.plan_num.proofs.Common.{list_any, int_eq}
use Rattle.std.proofs.lemmas.Int.{to_z-of_z}
use Rattle.event_tables.specs.declared.schedule_row.ScheduleRow.{ScheduleRow}
use Rattle.evaluators.proofs.FirstRowFacts.{no_firsts}
use Rattle.evaluators.proofs.SeenLines.{new_noted, noted_more, old_noted}
use Rattle.evaluators.proofs.first_rows.vehicle_count.Goals.{then-branch, else-branch}
use Rattle.evaluators.proofs.first_rows.vehicle_count.Goals as goal

pub loop-row-init : goal.loop-row-init
loop-row-init c = record {
  seen = λ id. ap (list_any (int_eq id)) c.new-seen.ensures.empty;
  told = sym (ap length (no_firsts (λ (row : ScheduleRow). pos row.vehicle)));
  few = omega arith;
}

pub loop-row-preserved : goal.loop-row-preserved
loop-row-preserved c =
    let key = λ (row : ScheduleRow). pos row.vehicle in
    let rows = c.args.rows.now in
    let i = c.loop-row.row-index in
    let inside = c.loop-row-test.true in
    let old = contains int_eq c.loop-row.seen in
    let own = to_z-of_z w64 c.from.result (record { sfits = c.from.type_inv }) in
    let known = c.loop-row.invariant.seen in
    let told = c.in_ok-note.ensures.new ∙ ap (λ line. not (old line)) own in
    let seen = noted_more key rows i _ inside old c.from.result c.from.ensures known
    (contains int_eq c.note.new.seen)
    (λ id. c.in_ok-note.ensures.noted id ∙ ap (λ line. old id || int_eq id line) own) in
    elim c.if-branch.branch [
      | then-branch w ↦
          record {
            seen = seen;
            told = w.count-is ∙ new_noted key rows i _ inside old c.from.result c.from.ensures known
                c.in_ok-note.field-0 told c.loop-row.count c.loop-row.invariant.told w.if-branch.true;
            few = omega (arith, w.count-is, c.loop-row.invariant.few);
          }
      | else-branch w ↦
          record {
            seen = seen;
            told = w.count-is ∙ old_noted key rows i _ inside old c.from.result c.from.ensures known
                c.in_ok-note.field-0 told c.loop-row.count c.loop-row.invariant.told w.if-branch.false;
            few = omega (arith, w.count-is, c.loop-row.invariant.few);
          }
    ]
