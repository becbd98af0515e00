-- Among so many minutes from a time on some time is left.
use Rattle.plan_num.proofs.Common.{◌≡◌, ◌≤◌, ◌+◌, ◌-◌, length}
use Rattle.pesp.specs.Marks.{is_left}
use Rattle.pesp.proofs.WordTurns.{IsWide}
use Rattle.pesp.proofs.windows.reached_in_words.Given as goal

abbrev pub invariant-loop-wide : goal.invariant-loop-wide
invariant-loop-wide l = record {
  long : length l.times ≡ 13;
  some : 1 ≤ l.wide;
  few : l.wide ≤ l.width + 1;
  wide : IsWide l.sets.columns (is_left l.sets l.event) l.wide l.times;
}

abbrev pub decreases-loop-wide : goal.decreases-loop-wide
decreases-loop-wide l = l.width + 1 - l.wide
