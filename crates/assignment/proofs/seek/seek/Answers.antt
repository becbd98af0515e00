use Rattle.plan_num.proofs.Common.{ap, is_some, sym, ◌∙◌}
use Rattle.assignment.proofs.Expanding.{no_next}
use Rattle.assignment.proofs.Sought.{seeking_none, seeking_kept, seeking_past, sought_none, ties_of}
use Rattle.assignment.proofs.Sought.{got_ready, got_sought, got_seeking}
use Rattle.assignment.proofs.seek.seek.Goals as goal
use Rattle.assignment.proofs.seek.seek.Goals.{then-place-own+then-has+in_ok-claim+in_ok-grow+else-is_some}
use Rattle.assignment.proofs.seek.seek.Goals.{else-place-own}
use Rattle.assignment.proofs.seek.seek.Goals.{else-place-own-via-then-place-own+else-has}
use Rattle.assignment.proofs.seek.seek.Goals.{else-place-own-via-else-place-own}

pub loop-place-init : goal.loop-place-init
loop-place-init g c = seeking_none g.search c.args.seeker.now.plan.now c.requires.0.is c.args.claimed.now.claims
    c.deref-place-items.result.now c.args.own c.args.claimed.now.places c.requires.1.1.0
    c.requires.1.1.1
    (ties_of g.search c.args.seeker.now.plan.now c.requires.0.is
    c.args.seeker.now.ties.now c.args.seeker.now.trip c.args.claimed.now.places c.args.claimed.now.claims
    c.in_ok-before.before.items
    c.deref-place-items.result.now c.requires.0.ties_are c.requires.0.trip_is c.requires.1.1.0
    c.requires.1.1.1 c.deref-place-items.ensures.value c.in_ok-before.ensures)

pub grow-requires : goal.grow-requires
grow-requires g c =
    let ready = got_ready g.search c.args.seeker.now.plan.now c.requires.0.is c.loop-place.claimed.claims
    c.deref-place-items.result.now c.args.own c.loop-place.place-index c.loop-place.claimed.places
    c.requires.1.0 c.loop-place.invariant
    c.loop-place-test.true c.if-place-own.true (sym c.if-has.ensures) c.claim.ensures.few
    c.args.seeker.now.trip c.requires.0.trip_is c.claim.new.claimed.claims c.in_ok-claim.ensures.claimed
    c.claim.new.claimed.places c.in_ok-claim.ensures.put in (
      c.requires.0,
      (c.requires.1.0, (record { right = ready.1.0; claimable = ready.0 }, ready.1.1)),
    )

pub returns-then-is_some-clause-sought : goal.returns-then-is_some-clause-sought
returns-then-is_some-clause-sought g c = got_sought
    g.search c.args.seeker.now.plan.now c.requires.0.is c.loop-place.claimed.claims
    c.deref-place-items.result.now c.args.own c.loop-place.place-index c.loop-place.claimed.places
    c.requires.1.0 c.loop-place.invariant
    c.loop-place-test.true c.if-place-own.true (sym c.if-has.ensures) c.claim.ensures.few
    c.args.seeker.now.trip c.requires.0.trip_is c.claim.new.claimed.claims c.in_ok-claim.ensures.claimed
    c.grow.new.claimed.claims c.in_ok-grow.ensures.more.kept.right c.in_ok-grow.ensures.more.others
    (ap is_some (sym c.at.ensures) ∙ sym c.if-is_some.ensures)

pub loop-place-preserved : goal.loop-place-preserved
loop-place-preserved g c = elim c.if-place-own.branch [
  | then-place-own+then-has+in_ok-claim+in_ok-grow+else-is_some w ↦ rw w.claimed-is
      (got_seeking g.search c.args.seeker.now.plan.now c.requires.0.is c.loop-place.claimed.claims
      c.deref-place-items.result.now c.args.own c.loop-place.place-index c.loop-place.claimed.places
      c.requires.1.0 c.loop-place.invariant
      c.loop-place-test.true w.if-place-own.true (sym w.if-has.ensures) w.claim.ensures.few
      c.args.seeker.now.trip c.requires.0.trip_is w.claim.new.claimed.claims w.in_ok-claim.ensures.claimed
      w.grow.new.claimed.claims w.in_ok-grow.ensures.more.kept.right w.in_ok-grow.ensures.more.more
      w.in_ok-grow.ensures.more.others
      (w.in_ok-grow.ensures.done (sym w.at.ensures ∙ no_next w.at.result
      (sym w.if-is_some.ensures)))
      (sym w.at.ensures ∙ no_next w.at.result (sym w.if-is_some.ensures))
      w.grow.new.claimed.places w.in_ok-grow.ensures.more.kept.claimable)
  | else-place-own w ↦ rw w.claimed-is (elim w.else-place-own.branch [
    | else-place-own-via-then-place-own+else-has v ↦ seeking_kept
        g.search c.args.seeker.now.plan.now c.requires.0.is c.loop-place.claimed.claims
        c.deref-place-items.result.now c.args.own c.loop-place.place-index c.loop-place.claimed.places
        c.requires.1.0 c.loop-place.invariant
        c.loop-place-test.true (sym v.if-has.ensures)
    | else-place-own-via-else-place-own v ↦ seeking_past
        g.search c.args.seeker.now.plan.now c.requires.0.is c.loop-place.claimed.claims
        c.deref-place-items.result.now c.args.own c.loop-place.place-index c.loop-place.claimed.places
        c.requires.1.0 c.loop-place.invariant
        v.if-place-own.false
  ])
]

pub returns-clause-sought : goal.returns-clause-sought
returns-clause-sought g c = sought_none
    g.search c.args.seeker.now.plan.now c.requires.0.is c.loop-place.claimed.claims
    c.deref-place-items.result.now c.args.own c.loop-place.place-index c.loop-place.claimed.places
    c.requires.1.0 c.loop-place.invariant
    c.loop-place-test.false
