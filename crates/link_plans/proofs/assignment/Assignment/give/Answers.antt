use Rattle.plan_num.proofs.Common.{◌≡◌, None, false, sym, ◌∙◌, subst, arith}
use Rattle.link_plans.specs.Plans.{is_next}
use Rattle.link_plans.proofs.Moves.{moved_free, none_apart, given_inside}
use Rattle.link_plans.proofs.assignment.Assignment.give.Goals as goal

pub put-requires-clause-free : goal.put-requires-clause-free
put-requires-clause-free c = subst (λ plan. is_next plan c.args.place ≡ false) (sym c.take_away.ensures)
    (moved_free c.args.self.now c.args.trip None c.requires.trip c.args.place
    (none_apart c.args.place) c.requires.free)

pub returns-then-place-count : goal.returns-then-place-count
returns-then-place-count c = c.put.ensures
    ∙ given_inside c.args.self.now c.take_away.new.self c.args.trip c.args.place c.take_away.ensures
    (omega (arith, c.if-place-count.true, c.len-count.ensures.count))
