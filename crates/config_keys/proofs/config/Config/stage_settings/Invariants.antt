-- The keys of the stage among the first keys are there with their values.
use Rattle.plan_num.proofs.Common.{◌≡◌, take, map, filter}
use Rattle.giv_files.proofs.Common.{has_key}
use Rattle.config_keys.specs.Config.{setting_at}
use Rattle.config_keys.proofs.config.Config.stage_settings.Given as goal

abbrev pub invariant-loop-key : goal.invariant-loop-key
invariant-loop-key l = l.settings ≡ map (setting_at l.self)
    (filter (has_key l.stage) (take l.key-index l.key-items))
