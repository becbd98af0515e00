-- The rows of a text.
use Rattle.std.specs.Prelude.{ℕ, Bool, not, ◌-◌, ◌==◌, ◌&&◌, ◌||◌, nat_eq, nat_le, if◌then◌else◌, List, [], ◌∷◌, length, take, drop, map, filter, slice_index, slice_index_or, Option, Some, None}
use Rattle.std.specs.List.{slice_split, prefix_len, suffix_len, before_first, list_all, flat_map, enumerate_from, starts_with}
use Rattle.std.specs.Str.Lines.{strip_carriage_return}

-- a space or a tab
abbrev pub is_blank : ℕ → Bool
is_blank byte = (byte == 32) || (byte == 9)

-- a field without the blanks round it
abbrev pub without_blanks : List ℕ → List ℕ
without_blanks field = let front = drop (prefix_len is_blank field) field in take (length front - suffix_len is_blank front) front

-- a quote stands at both ends of a field
abbrev pub is_quoted : List ℕ → Bool
is_quoted field = nat_le 2 (length field) && ((slice_index field 0 == 34) && (slice_index field (length field - 1) == 34))

-- a field without one pair of quotes round it
abbrev pub without_quotes : List ℕ → List ℕ
without_quotes field = if is_quoted field then take (length field - 2) (drop 1 field) else field

-- there are two fields at least, and the last is empty
abbrev pub ends_empty : List (List ℕ) → Bool
ends_empty fields = nat_le 2 (length fields) && (length (slice_index_or fields (length fields - 1) []) == 0)

-- the fields of a row without a last one that is empty, once
abbrev pub without_last_empty : List (List ℕ) → List (List ℕ)
without_last_empty fields = if ends_empty fields then take (length fields - 1) fields else fields

-- the fields of pieces between semicolons
unfoldable pub cleaned : List (List ℕ) → List (List ℕ)
cleaned pieces = map without_quotes (without_last_empty (map without_blanks pieces))

-- the pieces of a line, cut at each semicolon
abbrev pub pieces : List ℕ → List (List ℕ)
pieces line = slice_split (λ byte. byte == 59) line

-- what stands before a comment
abbrev pub before_comment : List ℕ → List ℕ
before_comment line = before_first (λ byte. byte == 35) line

-- a row of a text: its number, and its fields from the left
pub record Row : Type 0 where
  pub number : ℕ
  pub fields : List (List ℕ)

-- the row of a line; a line with only blanks before a comment has none
abbrev pub row_of : ℕ → List ℕ → List Row
row_of number line =
    let told = before_comment line in if list_all is_blank told then [] else record { number = number; fields = cleaned (pieces told) } ∷ []

-- a text, cut at each line feed
abbrev pub parts_of : List ℕ → List (List ℕ)
parts_of text = slice_split (λ byte. byte == 10) text

-- the lines of a text, each without one carriage return at its end
abbrev pub lines : List ℕ → List (List ℕ)
lines text = map strip_carriage_return (parts_of text)

-- the parts of what is left of a text, where there is something left
abbrev pub parts_left : Option (List ℕ) → List (List ℕ)
parts_left None = []
parts_left (Some text) = parts_of text

-- a line has a byte
abbrev pub has_byte : List ℕ → Bool
has_byte line = not (length line == 0)

-- the rows of a text: lines with a byte are numbered from 1
unfoldable pub rows : List ℕ → List Row
rows text = flat_map (λ line. row_of line.0 line.1) (enumerate_from 1 (filter has_byte (lines text)))

-- a text begins with the bytes of a byte order mark
abbrev pub has_mark : List ℕ → Bool
has_mark text = starts_with nat_eq text (239 ∷ 187 ∷ 191 ∷ [])
