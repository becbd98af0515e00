-- The customers of the rows so far want to go, and none of these rows breaks a rule.
use Rattle.plan_num.proofs.Common.{◌≡◌, ◌≤◌, ◌*◌, ℕ, take}
use Rattle.tables.proofs.Common.{records, SoundBefore}
use Rattle.demand_load.specs.Demand.{demand_input, load_of}
use Rattle.demand_paths.specs.Known.{AreKnown}
use Rattle.demand_paths.specs.Wanted.{everyone, goes_over, sum_between, AreWanted}
use Rattle.demand_load.proofs.demand.loads_of_rows.Given as goal

abbrev pub invariant-loop-i : goal.invariant-loop-i
invariant-loop-i l =
    let input = demand_input l.network in
    record {
      sound : SoundBefore input l.table l.i;
      known : AreKnown l.network l.known;
      wanted : AreWanted l.network l.wanted;
      few : sum_between (λ _. everyone) 0 l.wanted ≤ l.i * 1000000000000;
      loads : (index : ℕ) → sum_between (goes_over l.network index) 0 l.wanted
          ≡ load_of l.network (records input (take l.i l.table)) index;
    }
