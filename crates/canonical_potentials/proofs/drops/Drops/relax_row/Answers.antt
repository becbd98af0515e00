use Rattle.plan_num.proofs.Common.{get_or, arith}
use Rattle.link_plans.proofs.Common.{links_in, link_to, item}
use Rattle.canonical_potentials.proofs.Loops.{one_link, row_kept}
use Rattle.canonical_potentials.proofs.drops.Drops.relax_row.Goals as goal

pub relax_link_of-better-requires-clause-link : goal.relax_link_of-better-requires-clause-link
relax_link_of-better-requires-clause-link c = c.row-links.ensures.row.right c.loop-link.link-index _
    (item c.row-links.result.now c.loop-link.link-index c.loop-link-test.true)

pub loop-link-preserved : goal.loop-link-preserved
loop-link-preserved c = one_link (links_in c.args.trips.now) c.args.plan.now c.args.self.now c.args.i
    c.row-links.result.now c.loop-link.link-index
    (get_or c.row-links.result.now c.loop-link.link-index (link_to 0 0))
    (item c.row-links.result.now c.loop-link.link-index c.loop-link-test.true)
    c.loop-link.self c.relax_link_of-better.new.self c.loop-link.changed c.relax_link_of-better.result
    c.either-changed.result c.loop-link.invariant c.relax_link_of-better.ensures.step
    c.relax_link_of-better.ensures.kept c.either-changed.ensures

pub returns-clause-kept : goal.returns-clause-kept
returns-clause-kept c = λ e. row_kept (links_in c.args.trips.now) c.args.plan.now c.args.self.now c.args.i
    c.row-links.result.now c.row-links.ensures.row c.loop-link.link-index
    (omega (arith, c.loop-link-test.false)) (c.loop-link.invariant.kept e)
