use Rattle.plan_num.proofs.Common.{IfOk, subst, sym}
use Rattle.link_plans.proofs.Common.{links_in}
use Rattle.canonical_potentials.specs.Canonical.{AreCanonical}
use Rattle.canonical_potentials.specs.Drops.{IsSearched}
use Rattle.canonical_potentials.proofs.Rounds.{told_canonical}
use Rattle.canonical_potentials.proofs.Settled.{searched_first}
use Rattle.canonical_potentials.proofs.canonical.canonical_potentials.Goals as goal

pub walk-requires : goal.walk-requires
walk-requires c = subst
    (λ plan. IsSearched (links_in c.args.trips.now) plan c.in_ok-drops.drops)
    (sym c.in_ok-linked.ensures)
    (searched_first (links_in c.args.trips.now) c.len.ensures.links c.args.plan.now c.args.valid.now
    c.requires.plan c.requires.valid c.len.result c.len.ensures.count c.in_ok-drops.drops
    c.in_ok-drops.ensures)

pub returns-clause-made : goal.returns-clause-made
returns-clause-made c = told_canonical (links_in c.args.trips.now) c.len.ensures.links
    c.args.plan.now c.args.valid.now
    c.requires.plan c.requires.valid c.into_potentials.result
    (subst (λ plan. IfOk c.into_potentials.result (AreCanonical (links_in c.args.trips.now) plan))
    c.in_ok-linked.ensures c.into_potentials.ensures.least)
