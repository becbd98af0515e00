-- The texts so far, followed by those of the rest, are those of the whole.
use Rattle.plan_num.proofs.Common.{◌≡◌, ◌++◌, drop, length, map, option_map}
use Rattle.stage_keep.specs.EntryReading.{texts_at}
use Rattle.stage_keep.proofs.read.texts_at.Given as goal

abbrev pub invariant-loop-head : goal.invariant-loop-head
invariant-loop-head l = record {
  each : length l.texts.items ≡ l.head-index;
  left : option_map (λ later. map (λ text. text.now) l.texts.items ++ later)
      (texts_at (drop l.head-index l.heads) l.rest)
      ≡ texts_at l.heads l.fn.bytes;
}
