use Rattle.plan_num.proofs.Common.{None, ap, sym, ◌∙◌, slice_set, length, arith}
use Rattle.link_plans.proofs.Common.{past_free, successor_past}
use Rattle.assignment.proofs.Settling.{found_of}
use Rattle.assignment.proofs.chosen.move_to.Goals as goal

pub give-requires-clause-free : goal.give-requires-clause-free
give-requires-clause-free g c = past_free c.args.assignment.now c.len-last.result
    c.requires.0.successors
    (omega (arith, c.len-last.ensures.count))

pub hand_on-requires : goal.hand_on-requires
hand_on-requires g c = found_of g.search c.args.assignment.now c.requires.0 c.give.new.self
    (c.give.ensures
    ∙ ap (slice_set c.args.assignment.now c.args.trip)
    (successor_past (length c.args.assignment.now) c.len-last.result
    (omega (arith, c.len-last.ensures.count)))
    ∙ ap (λ i. slice_set c.args.assignment.now i None) (sym c.requires.1.0))
    c.args.own c.requires.1.1.0 c.args.claims.now c.requires.1.1.1.0 c.requires.1.1.1.1
