-- The places so far, followed by the texts of the rest, are those of the whole.
use Rattle.plan_num.proofs.Common.{◌≡◌, ◌++◌, All, List, ℕ, drop, length, map, option_map}
use Rattle.stage_keep.specs.EntryReading.{texts_at}
use Rattle.stage_keep.specs.Places.{IsWithin, part_of}
use Rattle.stage_keep.proofs.place.places_at.Given as goal

abbrev pub invariant-loop-head : goal.invariant-loop-head
invariant-loop-head l = record {
  each : length l.places.items ≡ l.head-index;
  front : List ℕ;
  split : l.fn.bytes ≡ front ++ l.rest;
  within : All (IsWithin l.fn.bytes) l.places.items;
  left : option_map (λ later. map (part_of l.fn.bytes) l.places.items ++ later)
      (texts_at (drop l.head-index l.heads) l.rest)
      ≡ texts_at l.heads l.fn.bytes;
}
