-- The links of the trips so far.
use Rattle.plan_num.proofs.Common.{◌≡◌, ℕ, is_some, length, take, get_or, None}
use Rattle.link_plans.proofs.Common.{is_next}
use Rattle.canonical_potentials.proofs.linked_plan.LinkedPlan.new.Given as goal

abbrev pub invariant-loop-trip : goal.invariant-loop-trip
invariant-loop-trip l = record {
  each : length l.before.items ≡ length l.plan;
  is : (j : ℕ) → is_some (get_or l.before.items j None) ≡ is_next (take l.trip l.plan) j;
}
