use Rattle.plan_num.proofs.Common.{ap}
use Rattle.line_concepts.proofs.Walking.{entered}
use Rattle.line_concepts.proofs.region_walk.RegionWalk.enter.Goals as goal

pub returns : goal.returns
returns c = entered c.self.inside.splits.items c.push.new.self.items c.self.inside.region
    c.set_range.new.self c.args.self.now c.args.line c.args.at c.ends-lo.result.0 c.ends-lo.result.1
    c.self.view_is (ap (λ ends. ends.0) c.ends-lo.ensures.ends)
    (ap (λ ends. ends.1) c.ends-lo.ensures.ends)
    c.in_ok-push.ensures.items c.set_range.ensures
