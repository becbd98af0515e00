-- The files so far, followed by those that are left with their texts, are all of them.
use Rattle.plan_num.proofs.Common.{◌≡◌, ◌++◌, drop, map, zip}
use Rattle.stage_keep.specs.EntryReading.{made_file}
use Rattle.stage_keep.specs.Places.{part_of}
use Rattle.stage_keep.proofs.last_part.add_copies.Given as goal

abbrev pub invariant-loop-index : goal.invariant-loop-index
invariant-loop-index l =
    l.made ++ map made_file (zip (drop l.index l.files) (drop l.index (map (part_of l.bytes) l.places)))
    ≡ l.initial.made ++ map made_file (zip l.files (map (part_of l.bytes) l.places))
