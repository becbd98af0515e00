use Rattle.plan_num.proofs.Common.{ap, subst}
use Rattle.waiting_decisions.specs.Paths.{GoesOn}
use Rattle.waiting_decisions.specs.Walks.{Walking}
use Rattle.waiting_decisions.proofs.Walked.{over_leaf}
use Rattle.waiting_decisions.proofs.walk.Walk.leave.Goals as goal

pub returns : goal.returns
returns c =
    let path = ap (λ (walk : Walking). walk.path) c.self.view_is in
    over_leaf c.args.penalty _ c.args.self.now c.requires
    (record {
      path = c.go_on.new.self;
      is_waiting = c.in_ok-self-inside.field-0;
      is_low = c.is_low_with-self-inside.result;
    })
    (subst (λ before. GoesOn before c.go_on.new.self c.in_ok-self-inside.field-0) path c.in_ok-self-inside.ensures)
    c.is_low_with-self-inside.ensures
