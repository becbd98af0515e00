-- The flags so far are set.
use Rattle.plan_num.proofs.Common.{◌≡◌, ◌<◌, ℕ, length, true}
use Rattle.pesp.specs.Flags.{has_changed}
use Rattle.pesp.proofs.flags.EventFlags.all.Given as goal

abbrev pub invariant-loop-event : goal.invariant-loop-event
invariant-loop-event l = record {
  events : length l.flags ≡ l.events;
  set : (event : ℕ) → event < l.event → has_changed l.flags event ≡ true;
}
