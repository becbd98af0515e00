-- A chain starts with the settings of its dataset.
use Rattle.stage_chain.specs.StageParts.{staged}
use Rattle.plan_num.proofs.Common.{◌≡◌, ℕ, ℤ, List, [], Option, Some, None, IfSome, Result, Ok, Err}
use Rattle.plan_num.proofs.Common.{arith}
use Rattle.plan_files.proofs.Common.{Folder}
use Rattle.config_keys.specs.declared.config_end.ConfigEnd.{ConfigEnd}
use Rattle.config_keys.proofs.Common.{ConfigGives, look_in, effective}
use Rattle.config_keys.specs.declared.config_end.ConfigEnd.TheVariants as config
use Rattle.stage_chain.specs.declared.chain_end.ChainEnd.{ChainEnd}
use Rattle.stage_chain.specs.Chain.{chain_from, to_run}
use Rattle.stage_chain.specs.Kept.{solve_over, trace_over}
use Rattle.stage_chain.specs.Ends.{end_of_config}
use Rattle.stage_chain.specs.Progress.{SoFar, nothing, ChainGives}
use Rattle.stage_chain.specs.StageParts.{StageParts}
use Rattle.stage_chain.specs.Laws.{AreStages}

module _ (S : StageParts) (laws : AreStages S) where
  refused_in : (folder : Folder) (end : ConfigEnd) (count : ℕ)
      → ConfigGives (effective (look_in folder)) (Err end)
      → ChainGives S folder (trace_over S folder folder) nothing count count (Err (end_of_config end))
  unfolding trace_over
  refused_in folder (config.Refused reason) count told = grind arith
  refused_in folder config.FileFault count told = (omega arith, omega arith)
  refused_in folder config.NoMemory count told = (omega arith, omega arith)

  -- the settings are refused
  pub refused : (contents : Option Folder) (end : ConfigEnd) (so_far : SoFar) (count : ℕ)
      (result : Result (Unit {0}) ChainEnd) → so_far ≡ nothing
      → IfSome contents (λ folder. ConfigGives (effective (look_in folder)) (Err end))
      → result ≡ Err (end_of_config end)
      → IfSome contents (λ folder. ChainGives S folder (trace_over S folder folder) so_far count count result)
  refused None end so_far count result none told e = tt
  refused (Some folder) end so_far count result none told e =
      rw (none, e) (refused_in folder end count told)

  -- the stages run under the settings
  pub settled : (contents now : Option Folder) (values : List ℤ) (new : SoFar) (before count : ℕ)
      (result : Result (Unit {0}) ChainEnd) → now ≡ contents
      → IfSome contents (λ folder. ConfigGives (effective (look_in folder)) (Ok values))
      → IfSome now
      (λ folder. ChainGives S folder
      (chain_from (solve_over S folder) values folder [] (to_run values (staged S values))) new before count result)
      → IfSome contents (λ folder. ChainGives S folder (trace_over S folder folder) new before count result)
  unfolding trace_over
  settled None now values new before count result same told h = tt
  settled (Some folder) now values new before count result same told h = grind arith
