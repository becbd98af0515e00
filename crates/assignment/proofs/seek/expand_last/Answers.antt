use Rattle.plan_num.proofs.Common.{◌≡◌, ◌<◌, ◌∙◌, ap, is_some, sym, arith, false≢true}
use Rattle.assignment.proofs.ClaimingAll.{still_claimed}
use Rattle.assignment.proofs.Expanding.{last_kept, last_left, last_more, no_next}
use Rattle.assignment.proofs.seek.expand_last.Goals as goal
use Rattle.assignment.proofs.seek.expand_last.Goals.{then-is_none+in_ok-claim_all, else-is_none}

pub claim_all-requires : goal.claim_all-requires
claim_all-requires g c =
    let low : g.search.low ≡ c.args.seeker.now.trip = c.requires.0.is.first ∙ c.requires.0.trip_is in
    let within : c.loop-by.by < g.search.links.count =
    omega (arith, c.loop-by-test.true, c.len-by-end.ensures.count, c.requires.0.is.possible.each) in (
      c.requires.0,
      (
        record {
          right = c.loop-by.invariant.last.going.right;
          claimable = c.loop-by.invariant.claimable;
        },
        (
          (omega (arith, low), within),
          (
            last_left g.search c.args.seeker.now.plan.now c.args.claimed.now.claims c.args.place c.loop-by.by
                c.requires.0.is c.requires.1.0.right c.requires.1.1.0
                (omega (arith, c.if-place-len.false, c.len.ensures.count)) c.requires.1.1.1
                (sym c.next.ensures.value ∙ no_next c.next.result (c.if-is_none.ensures)),
            still_claimed c.args.claimed.now.claims c.loop-by.claimed.claims c.args.place
                c.loop-by.invariant.last.going.more c.requires.1.1.0,
          ),
        ),
      ),
    )

pub loop-by-preserved : goal.loop-by-preserved
loop-by-preserved g c = elim c.if-is_none.branch [
  | then-is_none+in_ok-claim_all w ↦ rw w.claimed-is (record {
    last = last_more g.search c.args.seeker.now.plan.now c.args.claimed.now.claims c.loop-by.claimed.claims
        w.claim_all.new.claimed.claims c.loop-by.by c.loop-by.invariant.last
        w.in_ok-claim_all.ensures.more.kept.right w.in_ok-claim_all.ensures.more.more
        w.in_ok-claim_all.ensures.more.others w.in_ok-claim_all.ensures.all;
    claimable = w.in_ok-claim_all.ensures.more.kept.claimable;
  })
  | else-is_none w ↦ rw w.claimed-is (record {
    last = last_kept g.search c.args.seeker.now.plan.now c.args.claimed.now.claims c.loop-by.claimed.claims
        c.loop-by.by c.loop-by.invariant.last
        (λ none. false≢true (sym (ap is_some (c.next.ensures.value ∙ none))
        ∙ w.if-is_none.ensures));
    claimable = c.loop-by.invariant.claimable;
  })
]
