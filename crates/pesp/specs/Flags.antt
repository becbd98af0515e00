-- Inner words: flags of events.
use Rattle.std.specs.Prelude.{◌≡◌, ◌⊎◌, ℕ, ◌/◌, ◌<◌, ◌≤◌, Bool, true, false, List, length, map}
use Rattle.std.specs.Prelude.{get_or, Option, Some, None}
use Rattle.std.specs.List.{range_with_len}
use Rattle.bit_rows.specs.Bits.{Bits, has}
use Rattle.pesp.specs.Marks.{any_below}

-- a flag for each event
abbrev pub Flags : Type 0
Flags = List Bool

-- whether the set of an event has changed, and whether that of some event has
abbrev pub has_changed : Flags → ℕ → Bool
has_changed flags event = get_or flags event false

abbrev pub some_changed : Flags → Bool
some_changed flags = any_below (has_changed flags) (length flags)

-- the flags of events by a row of bits
abbrev pub flags_of : Bits → Flags
flags_of bits = map (has bits 0) (range_with_len 0 bits.columns)

-- no bit is set outside of a range of words
abbrev pub IsClearOutside : ℕ → ℕ → Bits → Type 0
IsClearOutside low high bits =
    (event : ℕ) → (event / 64 < low) ⊎ (high ≤ event / 64) → has bits 0 event ≡ false

-- the last event before one whose flag is set, if one is
abbrev pub IsLastFlag : Flags → ℕ → Option ℕ → Type 0
IsLastFlag flags end None = (event : ℕ) → event < end → has_changed flags event ≡ false
IsLastFlag flags end (Some last) = (last < end) × (has_changed flags last ≡ true)
    × ((event : ℕ) → last < event → event < end → has_changed flags event ≡ false)
