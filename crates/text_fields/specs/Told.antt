-- Inner words: the lines of a text that have rows. A reader of the contracts of this crate needs
-- none of them.
use Rattle.std.specs.Prelude.{ℕ, ◌≡◌, ◌<◌, ◌≤◌, ◌+◌, ◌-◌, ◌==◌, ◌||◌, ◌&&◌, nat_le, nat_lt, not, if◌then◌else◌}
use Rattle.std.specs.Prelude.{List, [], ◌∷◌, length, filter, map, slice_index, Bool, false, true}
use Rattle.std.specs.Prelude.{Option, Some, None}
use Rattle.std.specs.List.{list_all, flat_map, enumerate_from}
use Rattle.std.specs.Str.Lines.{strip_carriage_return}
use Rattle.text_fields.specs.declared.text_lines.LineTaken.{LineTaken}
use Rattle.text_fields.specs.declared.text_lines.LineTaken.TheVariants as taken
use Rattle.text_fields.specs.declared.text_row.LineRead.{LineRead}
use Rattle.text_fields.specs.declared.text_row.LineRead.TheVariants as line
use Rattle.text_fields.specs.declared.text_row.Stands.{Stands}
use Rattle.text_fields.specs.declared.text_row.Stands.TheVariants as stands
use Rattle.text_fields.specs.Rows.{Row, is_blank, before_comment, has_byte, cleaned, pieces}

-- a line that has a row: its number, and what stands before a comment
pub record Told : Type 0 where
  pub number : ℕ
  pub line : List ℕ

-- a line with only blanks before a comment has no row
abbrev pub told_of : ℕ → List ℕ → List Told
told_of number line =
    let told = before_comment line in if list_all is_blank told then [] else
    record { number = number; line = told } ∷ []

-- the lines that have rows, after so many that were numbered
unfoldable pub told_left : ℕ → List (List ℕ) → List Told
told_left number parts =
    flat_map (λ line. told_of line.0 line.1) (enumerate_from (number + 1)
    (filter has_byte (map strip_carriage_return parts)))

-- the row of such a line
abbrev pub row_told : Told → Row
row_told told = record { number = told.number; fields = cleaned (pieces told.line) }

-- how much is left of a text, with one for its end
abbrev pub left_size : Option (List ℕ) → ℕ
left_size None = 0
left_size (Some text) = length text + 1

-- the last byte of a piece is a carriage return
abbrev pub returns : List ℕ → Bool
returns piece = slice_index piece (length piece - 1) == 13

-- what stands before a comment is too long for csv, or a comment comes where csv would not see that
-- there is a line, or would take what stands before it for the end of the line
unfoldable pub is_odd : List ℕ → Bool
is_odd line =
    let told = before_comment line in
    nat_le 4096 (length told)
    || (nat_lt (length told) (length line) && ((length told == 0) || returns told))

-- what csv is given of a line: what stands before a comment, or the sign of a comment alone
unfoldable pub handed : List ℕ → List ℕ
handed line = if is_odd line then 35 ∷ [] else before_comment line

-- the last byte of a front is part of what a line tells
unfoldable pub is_told : List ℕ → Bool
is_told front =
    let last = slice_index front (length front - 1) in
    nat_lt 0 (length front) && not ((last == 10) || (last == 13))

-- a line begins with the sign of a comment
unfoldable pub begins : List ℕ → Bool
begins [] = false
begins (byte ∷ more) = byte == 35

-- what csv is given of lines: after one that begins with the sign of a comment, those that begin so
-- too are left out, and empty ones among them
unfoldable pub given : Bool → List (List ℕ) → List (List ℕ)
given signed [] = []
given signed (line ∷ more) =
    if signed && ((length line == 0) || begins line) then given true more else
    handed line ∷ given (begins line) more

-- and what it is given after the first of them
abbrev pub given_after : List (List ℕ) → List (List ℕ)
given_after [] = []
given_after (line ∷ more) = given (begins line) more

-- pieces of which the last has no carriage return at its end
unfoldable pub unreturned : List (List ℕ) → List (List ℕ)
unreturned [] = []
unreturned (piece ∷ []) = strip_carriage_return piece ∷ []
unreturned (piece ∷ next ∷ more) = piece ∷ unreturned (next ∷ more)

-- the pieces of a row: those that csv gives, those without a carriage return, or those of a line
-- that is at hand
abbrev pub pieces_of : Stands → List (List ℕ) → List (List ℕ)
pieces_of stands.Apart parts = parts
pieces_of stands.Returned parts = unreturned parts
pieces_of (stands.Told line) parts = pieces line.now

-- so many lines that begin with the sign of a comment are passed over: those that are left have the
-- same rows, numbered on
pub record PassesComments (old new : List (List ℕ)) (count : ℕ) : Type 0 where
  pub told : (number : ℕ) → told_left number old ≡ told_left (number + count) new
  pub lines : length old ≡ length new + count

-- csv gives the pieces of the next line, two at least
pub record HasPieces (old new found : List (List ℕ)) : Type 0 where
  pub line : List ℕ
  pub left : old ≡ line ∷ new
  pub pieces : found ≡ pieces (handed line)
  pub some : 2 ≤ length found

-- what reading the next of the lines that are left does: csv gives its pieces, or it is looked up
-- where it stands, or it is passed over with those that begin as it does, or nothing was left
abbrev pub TakesLine : List (List ℕ) → List (List ℕ) → List (List ℕ) → LineTaken → Type 0
TakesLine old new found taken.Apart = HasPieces old new found
TakesLine old new found (taken.Stands line) = old ≡ line.now ∷ new
TakesLine old new found (taken.Comments count) = PassesComments old new count × (0 < count)
TakesLine old new found taken.Nothing = old ≡ []

-- what a line that was read is, of those that were left after so many that were numbered: a row,
-- or passed over, with how many are numbered then, or nothing was left
abbrev pub LineGives : ℕ → List (List ℕ) → List (List ℕ) → Row → LineRead → Type 0
LineGives number left more row line.Row =
    (map row_told (told_left number left) ≡ row ∷ map row_told (told_left (number + 1) more))
    × (length left ≡ length more + 1)
LineGives number left more row (line.Passed now) =
    (told_left number left ≡ told_left now more)
    × (now + length more ≤ number + length left) × (length more < length left)
LineGives number left more row line.Nothing = left ≡ []
