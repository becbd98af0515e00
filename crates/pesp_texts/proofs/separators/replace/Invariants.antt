-- The bytes so far are replaced, and the others stand.
use Rattle.plan_num.proofs.Common.{◌≡◌, length, ℕ, ◌<◌, ◌≤◌, get_or}
use Rattle.pesp_texts.specs.Texts.{semicolon_for}
use Rattle.pesp_texts.proofs.separators.replace.Given as goal

abbrev pub invariant-loop-place : goal.invariant-loop-place
invariant-loop-place l =
    record {
      size : length l.text ≡ length l.initial.text;
      front : (k : ℕ) → k < l.place
          → get_or l.text k 0 ≡ semicolon_for l.separator (get_or l.initial.text k 0);
      back : (k : ℕ) → l.place ≤ k → get_or l.text k 0 ≡ get_or l.initial.text k 0;
    }
