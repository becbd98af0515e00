-- Texts where they stand among bytes.
use Rattle.std.specs.Prelude.{ℕ, ◌+◌, ◌≤◌, List, length, take, drop}
use Rattle.stage_keep.specs.declared.place.Place.{Place}

-- the text at a place
abbrev pub part_of : List ℕ → Place → List ℕ
part_of bytes place = take place.size (drop place.start bytes)

-- the place is one of the bytes
abbrev pub IsWithin : List ℕ → Place → Type 0
IsWithin bytes place = place.start + place.size ≤ length bytes
