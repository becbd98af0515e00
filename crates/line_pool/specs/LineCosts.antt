-- What keeps the costs of lines within their columns.
use Rattle.std.specs.Prelude.{◌≤◌, List}
use Rattle.giv_files.specs.declared.key.Key.TheVariants as key
use Rattle.giv_files.specs.declared.setting.Setting.{Setting}
use Rattle.giv_files.specs.Settings.{amount}

-- settings of costs that are within their ranges
pub record AreModest (settings : List Setting) : Type 0 where
  pub fixed : amount settings key.LpoolCostsFixed ≤ 1000000000000
  pub by_length : amount settings key.LpoolCostsLength ≤ 10000000000
  pub by_edge : amount settings key.LpoolCostsEdges ≤ 1000000000000
