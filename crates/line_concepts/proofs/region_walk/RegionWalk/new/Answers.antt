use Rattle.line_concepts.proofs.Walking.{at_root}
use Rattle.line_concepts.proofs.region_walk.RegionWalk.new.Goals as goal

pub returns-clause-root : goal.returns-clause-root
returns-clause-root c = at_root c.args.problem.now c.in_ok-region.region c.new.result.items
    c.in_ok-region.ensures.root c.new.ensures.items
