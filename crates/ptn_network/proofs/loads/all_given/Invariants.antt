-- So far each load is given.
use Rattle.plan_num.proofs.Common.{◌≡◌, false, not, is_some, unwrap_or, map, take, list_any}
use Rattle.ptn_network.specs.Loads.{no_load}
use Rattle.ptn_network.proofs.loads.all_given.Given as goal

abbrev pub invariant-loop-load : goal.invariant-loop-load
invariant-loop-load l =
    record {
      there : list_any (λ load. not (is_some load)) (take l.load-index l.given) ≡ false;
      loads : l.loads.items ≡ map (λ load. unwrap_or load no_load) (take l.load-index l.given);
    }
