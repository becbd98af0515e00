-- The inputs so far and those that are left are all of them.
use Rattle.plan_num.proofs.Common.{◌≡◌, ◌++◌}
use Rattle.stage_keep.proofs.given.Given.into_bundle.Given as goal

abbrev pub invariant-loop-text : goal.invariant-loop-text
invariant-loop-text l = record {
  stage : l.bundle.stage ≡ l.fn.self.stage;
  settings : l.bundle.settings ≡ l.fn.self.settings;
  inputs : l.bundle.inputs ++ l.text-iterator.rest.items ≡ l.fn.self.inputs;
}
