-- The marks go on from here as they do from the first ones.
use Rattle.plan_num.proofs.Common.{◌≡◌, ◌&&◌, drop, length}
use Rattle.propagation.specs.EarlyEvents.{is_just}
use Rattle.propagation.specs.Marks.{is_turn, marked_by}
use Rattle.propagation.specs.Reasons.{reason_for}
use Rattle.propagation.proofs.wrong_reasons.mark_turns.Given as goal

abbrev pub invariant-loop-turn : goal.invariant-loop-turn
invariant-loop-turn l = record {
  told : marked_by (λ turn. turn.to) (λ turn. is_turn (reason_for l.reasons turn.to) && is_just l.times turn)
      l.marks.items (drop l.turn-index l.turns)
      ≡ marked_by (λ turn. turn.to) (λ turn. is_turn (reason_for l.reasons turn.to) && is_just l.times turn)
      l.fn.marks.items l.turns;
  each : length l.marks.items ≡ length l.times;
}
