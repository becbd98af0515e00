-- Bits of words, and rows of bits.
use Rattle.std.specs.Prelude.{◌≡◌, ℕ, ◌+◌, ◌*◌, ◌/◌, ◌%◌, ◌^◌, ◌<◌, ◌≤◌, ◌==◌, nat_lt}
use Rattle.std.specs.Prelude.{Bool, true, false, ◌&&◌, if◌then◌else◌, bit_and, bit_or}
use Rattle.std.specs.Prelude.{List, Option, Some, None, length, map, filter, get_or, slice_set}
use Rattle.std.specs.Int.{bit_at, bit_not, w64}
use Rattle.std.specs.List.{range_with_len}

-- ---- words

-- a bit of a word is set
unfoldable pub has_bit : ℕ → ℕ → Bool
has_bit word bit = bit_at word bit == 1

-- the bit at a place of words
abbrev pub marked : List ℕ → ℕ → Bool
marked words place = has_bit (get_or words (place / 64) 0) (place % 64)

-- the mask of one bit
abbrev pub one_bit : ℕ → ℕ
one_bit bit = 1 * 2 ^ bit % 2 ^ 64

-- the word where a bit is set or not
unfoldable pub with_bit : ℕ → ℕ → Bool → ℕ
with_bit word bit is =
    if is then bit_or word (one_bit bit) else bit_and word (bit_not w64 (one_bit bit))

-- the first bit of a word from one on that is set, if one is
abbrev pub IsFirstBit : ℕ → ℕ → Option ℕ → Type 0
IsFirstBit word from None = (bit : ℕ) → from ≤ bit → bit < 64 → has_bit word bit ≡ false
IsFirstBit word from (Some first) = (from ≤ first) × (first < 64) × (has_bit word first ≡ true)
    × ((bit : ℕ) → from ≤ bit → bit < first → has_bit word bit ≡ false)

-- the last bit of a word before one that is set, if one is
abbrev pub IsLastBit : ℕ → ℕ → Option ℕ → Type 0
IsLastBit word end None = (bit : ℕ) → bit < 64 → bit < end → has_bit word bit ≡ false
IsLastBit word end (Some last) = (last < end) × (last < 64) × (has_bit word last ≡ true)
    × ((bit : ℕ) → bit < 64 → last < bit → bit < end → has_bit word bit ≡ false)

-- the places of the bits of a word that are set, counted from the place of the first bit
abbrev pub places_in : ℕ → ℕ → List ℕ
places_in start word = map (λ bit. start + bit) (filter (has_bit word) (range_with_len 0 64))

-- how many words hold so many bits
abbrev pub words_of : ℕ → ℕ
words_of bits = (bits + 63) / 64

-- ---- rows

-- rows of bits, of which each begins with a word
pub record Bits : Type 0 where
  pub rows : ℕ
  pub columns : ℕ
  pub words : List ℕ

-- the place of the word of a column of a row, and that word
abbrev pub place_of : ℕ → ℕ → ℕ → ℕ
place_of columns row column = row * words_of columns + column / 64

abbrev pub word_of : Bits → ℕ → ℕ → ℕ
word_of bits row column = get_or bits.words (place_of bits.columns row column) 0

-- a bit is set, which none is outside of the rows and columns
abbrev pub has : Bits → ℕ → ℕ → Bool
has bits row column =
    nat_lt column bits.columns && has_bit (word_of bits row column) (column % 64)

-- the columns at which both of two rows have a bit
abbrev pub common : Bits → ℕ → Bits → ℕ → List ℕ
common bits row other other_row =
    filter (λ column. has bits row column && has other other_row column)
    (range_with_len 0 bits.columns)

-- the rows where the word at a place is another one
abbrev pub with_word : Bits → ℕ → ℕ → Bits
with_word bits place word = record {
  rows = bits.rows;
  columns = bits.columns;
  words = slice_set bits.words place word;
}

-- no bit of a word at a place is set past the columns
abbrev pub FitsAt : ℕ → ℕ → ℕ → ℕ → Type 0
FitsAt rows columns place word =
    (row column : ℕ) → row < rows → columns ≤ column → column < 64 * words_of columns
    → place_of columns row column ≡ place → has_bit word (column % 64) ≡ false

-- there are words for each row, and no bit is set past the columns
pub record AreBits (bits : Bits) : Type 0 where
  pub each : length bits.words ≡ bits.rows * words_of bits.columns
  pub few : bits.columns ≤ 1000000
  pub clear : (row column : ℕ) → row < bits.rows → bits.columns ≤ column
      → column < 64 * words_of bits.columns
      → has_bit (word_of bits row column) (column % 64) ≡ false
