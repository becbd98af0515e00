use Rattle.plan_num.proofs.Common.{MatchBool, None, ap, sym, slice_set, subst}
use Rattle.assignment.specs.Choices.{IsSought, IsFirst}
use Rattle.assignment.proofs.Settling.{settled_one}
use Rattle.assignment.proofs.chosen.decide.Goals as goal

pub returns-then-branch-clause-settled : goal.returns-then-branch-clause-settled
returns-then-branch-clause-settled g c = settled_one g.search c.args.assignment.now c.requires.0.is
    (slice_set c.args.assignment.now c.args.trip None)
    (ap (λ i. slice_set c.args.assignment.now i None) (sym c.requires.0.trip_is))
    c.seek.new.claimed.claims c.place-own.result c.move_to.new.assignment
    (subst (λ b. MatchBool b (IsSought g.search c.args.assignment.now c.seek.new.claimed.claims
    c.place-own.result)
    (IsFirst g.search c.args.assignment.now c.place-own.result)) c.if-branch.true
    c.in_ok-seek.ensures.sought)
    c.move_to.ensures
