use Rattle.plan_num.proofs.Common.{length, ap, arith}
use Rattle.walks.proofs.GoingOn.{reach_goes_on}
use Rattle.walks.proofs.labels.Labels.reach.Goals as goal

pub invariant_of-self-then-is_nearer : goal.invariant_of-self-then-is_nearer
invariant_of-self-then-is_nearer c =
    reach_goes_on c.self.inside.labels.items c.self.inside.frontier c.push.new.self c.args.stop
    c.args.sum c.self.invariant
    (omega (arith, ap length c.self.view_is, c.requires)) c.in_ok-push.ensures.more
