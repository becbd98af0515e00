use Rattle.plan_num.proofs.Common.{◌≡◌, true, ap, subst, sym, unwrap_or, ◌∙◌}
use Rattle.bit_rows.specs.Bits.{has}
use Rattle.assignment.specs.Choices.{ArePlaces}
use Rattle.assignment.proofs.ClaimingAll.{claiming_all, claiming_more}
use Rattle.assignment.proofs.seek.claim_all.Goals as goal

pub loop-place-preserved : goal.loop-place-preserved
loop-place-preserved g c = claiming_more g.search c.args.seeker.now.plan.now c.args.claimed.now.claims c.args.by
    c.args.from c.args.seeker.now.ties.now c.args.claimed.now.places c.unwrap_or.result c.deref-place-items.result.now
    (c.unwrap_or.ensures
    ∙ ap (unwrap_or c.args.by) (c.len.ensures.count ∙ c.requires.0.is.possible.each))
    c.requires.0.ties_are c.requires.1.0.claimable
    (subst (ArePlaces (λ place. (has c.args.seeker.now.ties.now c.unwrap_or.result place ≡ true)
    × (has c.args.claimed.now.places 0 place ≡ true)) c.args.seeker.now.ties.now.columns)
    (sym c.deref-place-items.ensures.value) c.in_ok-found.ensures)
    c.requires.1.1.0 c.loop-place.claimed.claims c.loop-place.place-index c.loop-place.claimed.places
    c.loop-place.invariant c.loop-place-test.true c.requires.1.1.1.0 c.requires.1.1.1.1
    c.claim.ensures.few c.claim.new.claimed.claims c.claim.new.claimed.places c.in_ok-claim.ensures.claimed
    c.in_ok-claim.ensures.put

pub returns-clause-all : goal.returns-clause-all
returns-clause-all g c = claiming_all g.search c.args.seeker.now.plan.now c.args.claimed.now.claims c.args.by
    c.args.from c.args.seeker.now.ties.now c.args.claimed.now.places c.unwrap_or.result c.deref-place-items.result.now
    (c.unwrap_or.ensures
    ∙ ap (unwrap_or c.args.by) (c.len.ensures.count ∙ c.requires.0.is.possible.each))
    c.requires.0.ties_are c.requires.1.0.claimable
    (subst (ArePlaces (λ place. (has c.args.seeker.now.ties.now c.unwrap_or.result place ≡ true)
    × (has c.args.claimed.now.places 0 place ≡ true)) c.args.seeker.now.ties.now.columns)
    (sym c.deref-place-items.ensures.value) c.in_ok-found.ensures)
    c.requires.1.1.0 c.loop-place.claimed.claims c.loop-place.place-index c.loop-place.claimed.places
    c.loop-place.invariant c.loop-place-test.false
