use Rattle.link_plans.proofs.Common.{item}
use Rattle.canonical_potentials.proofs.drops.Drops.relax_links.Goals as goal

pub relax_through-requires-clause-link : goal.relax_through-requires-clause-link
relax_through-requires-clause-link c = c.row-links.ensures.row.right c.loop-link.link-index _
    (item c.row-links.result.now c.loop-link.link-index c.loop-link-test.true)
