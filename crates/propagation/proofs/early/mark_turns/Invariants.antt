-- The marks go on from here as they do from the first ones.
use Rattle.plan_num.proofs.Common.{◌≡◌, drop, length, nat_lt}
use Rattle.propagation.specs.LeastTimes.{asked, time_at}
use Rattle.propagation.specs.Marks.{marked_by}
use Rattle.propagation.proofs.early.mark_turns.Given as goal

abbrev pub invariant-loop-turn : goal.invariant-loop-turn
invariant-loop-turn l = record {
  told : marked_by (λ turn. turn.to) (λ turn. nat_lt (time_at l.times turn.to) (asked l.times turn)) l.marks.items
      (drop l.turn-index l.turns)
      ≡ marked_by (λ turn. turn.to) (λ turn. nat_lt (time_at l.times turn.to) (asked l.times turn)) l.fn.marks.items
      l.turns;
  each : length l.marks.items ≡ length l.times;
}
