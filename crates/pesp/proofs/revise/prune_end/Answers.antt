use Rattle.plan_num.proofs.Common.{arith, ◌≡◌, ◌<◌, ◌-◌, ℕ, nat_le, subst}
use Rattle.bit_rows.specs.Bits.{marked}
use Rattle.pesp.specs.Marks.{Marks, is_left}
use Rattle.pesp.specs.Revising.{event_at, is_partnered}
use Rattle.pesp.proofs.Crowded.{crowded_end}
use Rattle.pesp.proofs.Pruned.{prunes_by_bits}
use Rattle.pesp.proofs.revise.prune_end.Goals as goal

pub returns : goal.returns
returns c =
    let activity = c.args.activity in
    prunes_by_bits c.args.sets.now c.prune.new.sets (event_at activity c.args.end)
    (is_partnered c.args.sets.now.sets.columns (is_left c.args.sets.now.sets) activity c.args.end)
    c.with_partner-times.result c.prune.result
    (subst (λ (sets : Marks). (time : ℕ) → time < sets.columns
    → marked c.with_partner-times.result time
    ≡ is_partnered sets.columns (is_left sets) activity c.args.end time) c.sets-2.ensures
    c.with_partner-times.ensures.each)
    (rw c.event.ensures at c.prune.ensures)

pub returns-then-is_crowded : goal.returns-then-is_crowded
returns-then-is_crowded c = grind (arith, crowded_end, nat_le)
