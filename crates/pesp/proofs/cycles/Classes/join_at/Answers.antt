use Rattle.plan_num.proofs.Common.{◌≡◌, ◌∙◌, ◌≤◌, ℕ, Some, ap, get_or, slice_get, subst, sym}
use Rattle.pesp.specs.Timetables.{Problem}
use Rattle.pesp.specs.Cycles.{IsTie, TiesBy}
use Rattle.pesp.specs.Revising.{width_of}
use Rattle.pesp.proofs.Ties.{ties}
use Rattle.pesp.proofs.cycles.Classes.join_at.Goals as goal

pub join-requires-clause-tie : goal.join-requires-clause-tie
join-requires-clause-tie c =
    let so = c.loop-index.invariant in
    let activity = c.activity-activity.result in
    let tie = c.tie_at.result in
    let index : ℕ = get_or c.args.indexes.now c.loop-index.index-index 0 in
    subst (λ (problem : Problem). IsTie problem tie) (sym so.own)
    (ties c.args.self.now.pesp.now so.sound index activity
    (subst (λ (problem : Problem). slice_get problem.activities index ≡ Some activity) so.own
    c.activity-activity.ensures.place)
    (sym (ap (λ (period : ℕ). width_of period activity) so.period) ∙ sym c.width_of.ensures.width
    ∙ c.if-width_of-eq0.true)
    tie (subst (λ (period : ℕ). TiesBy period activity tie) so.period c.tie_at.ensures.ties)
    (subst (λ (period : ℕ). tie.forth ≤ period) so.period c.tie_at.ensures.few_forth)
    (subst (λ (period : ℕ). tie.back ≤ period) so.period c.tie_at.ensures.few_back))
