-- The entry that some bytes are, where they are one.
use Rattle.std.specs.Prelude.{
  ◌≡◌,
  ℕ,
  ◌+◌,
  nat_le,
  nat_eq,
  if◌then◌else◌,
  List,
  [],
  ◌∷◌,
  ◌++◌,
  length,
  map,
  filter_map,
  take,
  drop,
  get_or,
  zip,
  codes,
  slice_get,
  Option,
  Some,
  None,
  option_map,
  option_and_then,
}
use Rattle.std.specs.List.{starts_with, range_with_len}
use Rattle.std.specs.Str.{bytes_eq}
use Rattle.tables.specs.declared.file_id.FileId.{FileId}
use Rattle.giv_files.specs.declared.made.Made.{Made}
use Rattle.giv_files.specs.declared.made.MadeFile.{MadeFile}
use Rattle.giv_files.specs.declared.stage.Stage.{Stage}
use Rattle.giv_files.specs.MadeLists.{made_lists}
use Rattle.giv_files.specs.Stages.{stage_inputs}
use Rattle.stage_keep.specs.Entries.{EntryParts, IsEntryOf, opening, made_head, first_line, last_line, entry_bytes}

-- what is behind a front, where bytes begin with it
abbrev pub behind : List ℕ → List ℕ → Option (List ℕ)
behind front bytes = if starts_with nat_eq bytes front then Some (drop (length front) bytes) else None

-- so many bytes and what is behind them, where there are so many
abbrev pub cut : ℕ → List ℕ → Option (List ℕ × List ℕ)
cut size bytes = if nat_le size (length bytes) then Some (take size bytes, drop size bytes) else None

-- the text of a block of so many bytes at the front of bytes, and what is behind it
abbrev pub block_of_size : List ℕ → List ℕ → ℕ → Option (List ℕ × List ℕ)
block_of_size head bytes size = option_and_then (cut size) (behind (opening head size) bytes)

-- the text of a block of some size at the front of bytes, and what is behind it
abbrev pub block_at : List ℕ → List ℕ → Option (List ℕ × List ℕ)
block_at head bytes = slice_get (filter_map (block_of_size head bytes) (range_with_len 0 (length bytes))) 0

-- the texts of blocks under these heads, where the last line is behind them and nothing else
unfoldable pub texts_at : List (List ℕ) → List ℕ → Option (List (List ℕ))
texts_at [] bytes = if bytes_eq bytes last_line then Some [] else None
texts_at (head ∷ heads) bytes =
    option_and_then (λ block. option_map (λ texts. block.0 ∷ texts) (texts_at heads block.1))
    (block_at head bytes)

-- the heads of an entry that has these made files
abbrev pub heads : Stage → List FileId → List (List ℕ)
heads stage files =
    codes "settings" ∷ map (λ _. codes "input") (stage_inputs stage) ++ map made_head files ++ codes "report"
    ∷ []

-- a file that was made, with its text
abbrev pub made_file : FileId × List ℕ → MadeFile
made_file made = record { file = made.0; text = made.1 }

-- the entry of these texts
abbrev pub entry_of : Stage → List FileId → List (List ℕ) → EntryParts
entry_of stage files texts = let inputs = length (stage_inputs stage) in record {
  settings = get_or texts 0 [];
  inputs = take inputs (drop 1 texts);
  made = record {
    files = map made_file (zip files (drop (1 + inputs) texts));
    report = get_or texts (1 + inputs + length files) [];
  };
}

-- the entry that bytes are, where its made files are these
abbrev pub entry_with : Stage → List ℕ → List FileId → Option EntryParts
entry_with stage bytes files =
    option_map (entry_of stage files)
    (option_and_then (texts_at (heads stage files)) (behind (first_line stage) bytes))

-- the entry of a stage that bytes are, where they are one
unfoldable pub read_entry : Stage → List ℕ → Option EntryParts
read_entry stage bytes = slice_get (filter_map (entry_with stage bytes) (made_lists stage)) 0

-- the heads of the last blocks of an entry that has these made files
abbrev pub last_heads : List FileId → List (List ℕ)
last_heads files = map made_head files ++ codes "report" ∷ []

-- what was made, by the texts of the last blocks
abbrev pub made_of : List FileId → List (List ℕ) → Made
made_of files texts = record {
  files = map made_file (zip files texts);
  report = get_or texts (length files) [];
}

-- what was made, where bytes are the last part of an entry with these made files
abbrev pub made_with : List ℕ → List FileId → Option Made
made_with bytes files = option_map (made_of files) (texts_at (last_heads files) bytes)

-- what was made, where bytes are the last part of an entry of a stage
unfoldable pub read_made : Stage → List ℕ → Option Made
read_made stage bytes = slice_get (filter_map (made_with bytes) (made_lists stage)) 0

-- what reading gives: the entry that the bytes are, and none exactly where they are no entry of the stage
abbrev pub ReadsEntry : Stage → List ℕ → Option EntryParts → Type 0
ReadsEntry stage bytes (Some entry) = IsEntryOf stage entry × (bytes ≡ entry_bytes stage entry)
ReadsEntry stage bytes None =
    (entry : EntryParts) → IsEntryOf stage entry → ¬ (bytes ≡ entry_bytes stage entry)
