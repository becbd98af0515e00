use Rattle.plan_num.proofs.Common.{◌≡◌, ◌∙◌, ℕ, ap, arith, false, subst, sym}
use Rattle.pesp.specs.Listings.{is_empty}
use Rattle.pesp.specs.Marks.{Marks, is_left, times_from}
use Rattle.pesp.specs.Revising.{RevisesEnd, event_at, is_partnered, noted}
use Rattle.pesp.proofs.Revised.{end_inside, end_revised, ends_apart, own_kept, side_full}
use Rattle.pesp.proofs.revise.revise_end.Goals as goal

pub returns-clause-revises : goal.returns-clause-revises
returns-clause-revises c =
    let activity = c.args.activity in
    let is_changed = c.in_ok-is_changed.is_changed in
    subst (RevisesEnd activity c.args.end c.args.at c.args.sets.now c.prune_end.new.sets c.args.changed.now)
    (sym (c.note.ensures ∙ ap (λ event. noted c.args.changed.now event is_changed) c.event-event.ensures))
    (end_revised activity c.args.end c.args.sets.now c.prune_end.new.sets is_changed c.args.at
    c.args.changed.now
    (omega (arith, c.requires.each, end_inside _ activity c.requires.activity c.args.end))
    c.in_ok-is_changed.ensures)

pub returns-clause-full : goal.returns-clause-full
returns-clause-full c none =
    let activity = c.args.activity in
    side_full c.args.sets.now c.prune_end.new.sets (event_at activity c.args.end)
    (is_partnered c.args.sets.now.sets.columns (is_left c.args.sets.now.sets) activity c.args.end)
    c.in_ok-is_changed.is_changed c.in_ok-is_changed.ensures
    (λ is. subst (λ (event : ℕ). is_empty (times_from c.prune_end.new.sets.sets event 0) ≡ false)
    c.event-event.ensures
    (subst (λ (sets : Marks). is_empty (times_from sets c.event-event.result 0) ≡ false)
    c.sets.ensures (c.is_emptied.ensures.some none is)))

pub returns-clause-own : goal.returns-clause-own
returns-clause-own c apart =
    let activity = c.args.activity in
    own_kept c.args.sets.now c.prune_end.new.sets (event_at activity c.args.end) c.args.at
    (is_partnered c.args.sets.now.sets.columns (is_left c.args.sets.now.sets) activity c.args.end)
    c.in_ok-is_changed.is_changed c.in_ok-is_changed.ensures
    (λ own. ends_apart activity apart c.args.end
    (ap (event_at activity) (sym c.other.ensures) ∙ sym c.event.ensures ∙ c.if-event-at.false ∙ own))
