-- The files so far, followed by those that are left with their texts, are all of them.
use Rattle.plan_num.proofs.Common.{◌≡◌, ◌++◌, ◌≤◌, drop, length, map, zip}
use Rattle.stage_keep.specs.EntryReading.{made_file}
use Rattle.stage_keep.proofs.read.made_files.Given as goal

abbrev pub invariant-loop-index : goal.invariant-loop-index
invariant-loop-index l = record {
  few : length l.files ≤ length l.texts;
  left : l.made ++ map made_file (zip (drop l.index l.files) (drop l.index (map (λ text. text.now) l.texts)))
      ≡ map made_file (zip l.files (map (λ text. text.now) l.texts));
}
