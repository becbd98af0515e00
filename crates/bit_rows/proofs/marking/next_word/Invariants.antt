-- The words so far are 0.
use Rattle.std.proofs.Common.{length, ◌-◌, ℕ, ◌≡◌, ◌<◌, ◌≤◌, get_or}
use Rattle.bit_rows.proofs.marking.next_word.Given as goal

abbrev pub invariant-loop-word : goal.invariant-loop-word
invariant-loop-word l = record {
  from : l.from ≤ l.word;
  bare : (k : ℕ) → l.from ≤ k → k < l.word → get_or l.words k 0 ≡ 0;
}

abbrev pub decreases-loop-word : goal.decreases-loop-word
decreases-loop-word l = length l.words - l.word
