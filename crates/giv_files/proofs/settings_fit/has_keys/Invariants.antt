-- The settings so far have the keys of the stage so far.
use Rattle.plan_num.proofs.Common.{◌≡◌, ◌≤◌, length, map, take, filter}
use Rattle.giv_files.specs.Keys.{has_key}
use Rattle.giv_files.proofs.settings_fit.has_keys.Given as goal

abbrev pub invariant-loop-key : goal.invariant-loop-key
invariant-loop-key l =
    record {
      few : l.count ≤ length (map (λ setting. setting.key) l.settings);
      same : take l.count (map (λ setting. setting.key) l.settings)
          ≡ filter (has_key l.stage) (take l.key-index l.key-items);
    }
