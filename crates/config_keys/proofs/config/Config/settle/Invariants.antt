-- The first keys have good values, which are those so far.
use Rattle.plan_num.proofs.Common.{◌≡◌, take, map, None, not, is_some, unwrap_or, pos, find}
use Rattle.config_keys.specs.ReadSoFar.{said_of}
use Rattle.config_keys.specs.Values.{good_value}
use Rattle.config_keys.proofs.config.Config.settle.Given as goal

abbrev pub invariant-loop-key : goal.invariant-loop-key
invariant-loop-key l =
    record {
      good : find (λ key. not (is_some (good_value (said_of l.reading) key))) (take l.key-index l.key-items) ≡ None;
      told : l.values.items
          ≡ map (λ key. unwrap_or (good_value (said_of l.reading) key) (pos 0)) (take l.key-index l.key-items);
    }
