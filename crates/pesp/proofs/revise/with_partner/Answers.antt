use Rattle.plan_num.proofs.Common.{◌∙◌, ◌≤◌, ℕ, ap, arith, sym}
use Rattle.pesp.specs.Marks.{is_left}
use Rattle.pesp.specs.Revising.{event_at, opens_behind, other_end, reaches, width_of}
use Rattle.pesp.proofs.Partners.{partner_reached}
use Rattle.pesp.proofs.revise.with_partner.Goals as goal

pub returns-clause-each : goal.returns-clause-each
returns-clause-each c time low =
    let period = c.args.sets.now.columns in
    let activity = c.args.activity in
    let left = is_left c.args.sets.now in
    let period_is = c.period-period.ensures.value in
    let some : 1 ≤ period = omega (arith, c.period-period.ensures.sound.some) in
    let opens_is = c.opens_behind-opens.ensures.opens
    ∙ ap (λ (period : ℕ). opens_behind period activity c.args.end) period_is in
    let width_is = c.width_of-width.ensures.width
    ∙ ap (λ (period : ℕ). width_of period activity) period_is in
    (rw (c.event.ensures, c.other.ensures) at c.reached.ensures.each) time low
    ∙ (λ i. reaches period (left (event_at activity (other_end c.args.end))) (opens_is i) (width_is i) time)
    ∙ sym (partner_reached period some c.args.sets.now.rows activity c.requires left c.args.end time low)
