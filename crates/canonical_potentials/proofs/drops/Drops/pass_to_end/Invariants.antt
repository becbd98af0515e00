-- Where nothing has changed no arc finds a better walk; else the depth has risen.
use Rattle.plan_num.proofs.Common.{◌≡◌, ◌+◌, ◌-◌, false}
use Rattle.link_plans.proofs.Common.{links_in}
use Rattle.canonical_potentials.specs.Drops.{depth, one_if, IsSearched, ArePassed}
use Rattle.canonical_potentials.proofs.drops.Drops.pass_to_end.Given as goal

abbrev pub invariant-loop-changed : goal.invariant-loop-changed
invariant-loop-changed l = record {
  known : IsSearched (links_in l.trips) l.plan l.self;
  kept : l.changed ≡ false → ArePassed (links_in l.trips) l.plan l.self;
}

abbrev pub decreases-loop-changed : goal.decreases-loop-changed
decreases-loop-changed l = (8002000000000000000 - depth l.self) + one_if l.changed
