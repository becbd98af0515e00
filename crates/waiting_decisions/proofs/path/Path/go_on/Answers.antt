use Rattle.plan_num.proofs.Common.{arith, ◌∙◌}
use Rattle.waiting_decisions.proofs.PathFacts.{ended, passed_by, went_on}
use Rattle.waiting_decisions.proofs.path.Path.go_on.Goals as goal

pub returns-then-last : goal.returns-then-last
returns-then-last c =
    let is = went_on c.loop-last.self c.step_back.new.self c.step_back.result c.step_back.ensures.last
    c.step_back.ensures.rest
    c.in-Some.last c.leave_out.new.self c.in-Some.is c.if-last.true c.in_ok-leave_out.ensures in
    (is.0 ∙ c.loop-last.invariant.same, is.1 ∙ c.loop-last.invariant.waits)

pub loop-last-preserved : goal.loop-last-preserved
loop-last-preserved c =
    let is = passed_by c.loop-last.self c.step_back.new.self c.step_back.result c.step_back.ensures.last
    c.step_back.ensures.rest
    c.in-Some.last c.in-Some.is c.if-last.false in grind arith

pub returns : goal.returns
returns c =
    let is = ended c.loop-last.self c.step_back.new.self c.step_back.result c.step_back.ensures.last
    c.step_back.ensures.rest c.in_default.is in grind arith
