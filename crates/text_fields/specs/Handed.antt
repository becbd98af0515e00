-- Inner words: what csv is given of a text, and how it reads that. A reader of the contracts of
-- this crate needs none of them.
use Rattle.std.specs.Prelude.{ℕ, ◌≡◌, ◌≢◌, List, [], ◌∷◌, ◌++◌, All, filter, Option, Some, None}
use Rattle.std.specs.Prelude.{false, true, ⊤}
use Rattle.std.specs.Option.{option_copied}
use Rattle.csv.specs.Reading.{Ready, has_failed, is_flexible, reader_config, reader_state}
use Rattle.csv.specs.Reading.{reader_trim, source_of}
use Rattle.csv.specs.declared.parser.Config.{Config}
use Rattle.csv.specs.declared.parser.Terminator.TheVariants as term
use Rattle.csv.specs.declared.parser.State.TheVariants as st
use Rattle.csv.specs.declared.reader.Reader.{Reader}
use Rattle.csv.specs.declared.reader.Trim.TheVariants as trim
use Rattle.text_fields.specs.declared.handed.Handed.{Handed}
use Rattle.text_fields.specs.Rows.{has_byte, parts_left, pieces}
use Rattle.text_fields.specs.Told.{given}

-- lines, each before a line feed
unfoldable pub fed : List (List ℕ) → List ℕ
fed [] = []
fed (line ∷ more) = line ++ 10 ∷ fed more

-- a text is over, or it goes on with a line feed
unfoldable pub Stops : List ℕ → Type 0
Stops [] = ⊤
Stops (byte ∷ more) = byte ≡ 10

-- what is left to hand out: what is ready, and then what csv is given of the text that is left
abbrev pub unread : Handed → List ℕ
unread bytes = bytes.ready.now ++ fed (given false (parts_left (option_copied bytes.left)))

-- what csv is still given
abbrev pub handed_left : Handed → Option (List ℕ)
handed_left bytes = Some (unread bytes)

-- semicolons between fields, no quotes, and only a line feed ends a record
abbrev pub table_config : Config
table_config =
    record {
      delimiter = 59;
      quote = 34;
      escape = None;
      double_quote = true;
      quoting = false;
      comment = None;
      terminator = term.Any 10;
    }

-- lines have no line feed in them, and these are those with a byte
pub record AreLines (parts lines : List (List ℕ)) : Type 0 where
  pub plain : All (λ part. All (λ byte. byte ≢ 10) part) parts
  pub some : filter has_byte parts ≡ lines

-- a reader of csv has not failed, and reads these lines next
pub record Awaits (reader : Reader Handed) (lines : List (List ℕ)) : Type 0 where
  pub config : reader_config reader ≡ table_config
  pub state : reader_state reader ≡ st.StartRecord
  pub trim : reader_trim reader ≡ trim.None
  pub flexible : is_flexible reader ≡ true
  pub ready : Ready reader
  pub fine : has_failed reader ≡ false
  pub parts : List (List ℕ)
  pub are : AreLines parts lines
  pub source : source_of handed_left reader ≡ Some (fed parts)

-- a read gives the pieces of the first line, and leaves the others
abbrev pub ReadsLine : List (List ℕ) → Reader Handed → List (List ℕ) → Type 0
ReadsLine [] reader found = ⊥
ReadsLine (line ∷ more) reader found = (found ≡ pieces line) × Awaits reader more
