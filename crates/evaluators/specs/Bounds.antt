-- Statistics whose numbers can be printed.
use Rattle.std.specs.Prelude.{pos, neg_ℤ, ◌≤◌, ◌≤ℤ◌, ◌^◌}
use Rattle.evaluators.specs.declared.statistic.Statistic.{Statistic}

-- a statistic whose sums are not too great; its counts are below 2 to the power of 64
pub record IsSmall (all : Statistic) : Type 0 where
  pub lines : all.lines.cost ≤ 10 ^ 37
  pub running : all.lines.running ≤ 10 ^ 30
  pub events : all.periodic.events ≤ 10 ^ 30
  pub activities : all.periodic.activities ≤ 10 ^ 30
  pub drive : all.periodic.drive ≤ 10 ^ 30
  pub wait : all.periodic.wait ≤ 10 ^ 30
  pub change : all.periodic.change ≤ 10 ^ 30
  pub trips : all.trips ≤ 10 ^ 30
  pub vehicles : all.day.vehicles ≤ 10 ^ 30
  pub empty : all.day.empty_minutes ≤ 10 ^ 30
  pub schedule : all.schedule_cost ≤ 10 ^ 37
  pub early : neg_ℤ (pos (10 ^ 30)) ≤ℤ all.day.delay
  pub late : all.day.delay ≤ℤ pos (10 ^ 30)
  pub greatest : all.day.greatest ≤ 10 ^ 30
  pub missed : all.day.missed ≤ 10 ^ 30
