-- Among so many minutes from a time on some time is left.
use Rattle.plan_num.proofs.Common.{◌≤◌, ◌+◌, ◌-◌, [], ◌∷◌}
use Rattle.pesp.specs.Marks.{is_left}
use Rattle.pesp.proofs.WordTurns.{IsWide}
use Rattle.pesp.proofs.windows.reached_in_word.Given as goal

abbrev pub invariant-loop-span : goal.invariant-loop-span
invariant-loop-span l = record {
  some : 1 ≤ l.span;
  few : l.span ≤ l.width + 1;
  wide : IsWide l.sets.columns (is_left l.sets l.event) l.span (l.times ∷ []);
}

abbrev pub decreases-loop-span : goal.decreases-loop-span
decreases-loop-span l = l.width + 1 - l.span
