-- The stops between which lines are asked for.
use Rattle.std.specs.Prelude.{ℤ, ◌≤◌, List, length}
use Rattle.std.specs.List.{IsDistinct}
use Rattle.std.specs.Ordering.{int_eq}

-- the ids of terminals: 2 to 20 different ones
pub record AreTerminals (terminals : List ℤ) : Type 0 where
  pub some : 2 ≤ length terminals
  pub few : length terminals ≤ 20
  pub apart : IsDistinct int_eq terminals
