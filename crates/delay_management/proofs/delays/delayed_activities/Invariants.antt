-- The activities so far and those that are left are all of them, changes and others.
use Rattle.plan_num.proofs.Common.{◌≡◌, ◌++◌, true, false, drop}
use Rattle.delay_management.specs.InputProblems.{activities_of}
use Rattle.delay_management.proofs.delays.delayed_activities.Given as goal

abbrev pub invariant-loop-index : goal.invariant-loop-index
invariant-loop-index l = record {
  rides : l.rides.items ++ activities_of false l.rows (drop l.index l.activities)
      ≡ activities_of false l.rows l.activities;
  changes : l.changes.items ++ activities_of true l.rows (drop l.index l.activities)
      ≡ activities_of true l.rows l.activities;
}
