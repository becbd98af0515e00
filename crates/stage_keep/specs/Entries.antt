-- The entry of a stage in the keep, and its bytes.
use Rattle.std.specs.Prelude.{◌≡◌, ◌<◌, ◌^◌, ℕ, List, [], ◌∷◌, ◌++◌, length, map, flat_map, codes, decimal}
use Rattle.tables.specs.declared.file_id.FileId.{FileId}
use Rattle.giv_files.specs.declared.made.Made.{Made}
use Rattle.giv_files.specs.declared.made.MadeFile.{MadeFile}
use Rattle.giv_files.specs.declared.stage.Stage.{Stage}
use Rattle.tables.specs.FileNames.{file_name}
use Rattle.giv_files.specs.MadeLists.{MakesAs, ids_of}
use Rattle.giv_files.specs.Settings.{BundleParts}
use Rattle.giv_files.specs.Stages.{stage_inputs, stage_name, stage_row}
use Rattle.giv_files.specs.SettingsText.{settings_text}

-- an entry: the texts that a stage was given, and what it made of them
pub record EntryParts : Type 0 where
  pub settings : List ℕ
  pub inputs : List (List ℕ)
  pub made : Made

-- a text under a head that tells how long it is
pub record Block : Type 0 where
  pub head : List ℕ
  pub text : List ℕ

-- the line of a head with the length of its text
abbrev pub opening : List ℕ → ℕ → List ℕ
opening head size = head ++ codes " " ++ decimal size ++ 10 ∷ []

-- the bytes of a block
abbrev pub block_bytes : Block → List ℕ
block_bytes block = opening block.head (length block.text) ++ block.text

-- the head of a made file has its name
abbrev pub made_head : FileId → List ℕ
made_head file = codes "made " ++ file_name file

-- the block of an input, and that of a made file
abbrev pub input_block : List ℕ → Block
input_block text = record { head = codes "input"; text = text }

abbrev pub made_block : MadeFile → Block
made_block made = record { head = made_head made.file; text = made.text }

-- the blocks of an entry: its settings, its inputs, its made files, and its line of the report
abbrev pub entry_blocks : EntryParts → List Block
entry_blocks entry =
    record { head = codes "settings"; text = entry.settings } ∷ map input_block entry.inputs
    ++ map made_block entry.made.files
    ++ record { head = codes "report"; text = entry.made.report } ∷ []

-- the first line of an entry names its stage
abbrev pub first_line : Stage → List ℕ
first_line stage = codes "lintim keep 1 " ++ stage_name stage ++ 10 ∷ []

abbrev pub last_line : List ℕ
last_line = codes "end\n"

-- the bytes of an entry of a stage
unfoldable pub entry_bytes : Stage → EntryParts → List ℕ
entry_bytes stage entry = first_line stage ++ flat_map block_bytes (entry_blocks entry) ++ last_line

-- an entry is one of a stage: it has as many inputs as the stage takes, and files that the stage
-- makes, and its bytes can be counted in 64 bits
pub record IsEntryOf (stage : Stage) (entry : EntryParts) : Type 0 where
  pub inputs : length entry.inputs ≡ length (stage_inputs stage)
  pub made : MakesAs stage (ids_of entry.made.files)
  pub short : length (entry_bytes stage entry) < 2 ^ 64

-- the entry of a bundle and what was made of it
abbrev pub entry_for : BundleParts → Made → EntryParts
entry_for bundle made =
    record { settings = settings_text bundle.settings; inputs = bundle.inputs; made = made }

-- the front of the entry of a bundle, whatever was made of it: the first line, and the settings
abbrev pub entry_front : BundleParts → List ℕ
entry_front bundle =
    first_line bundle.stage
    ++ block_bytes (record { head = codes "settings"; text = settings_text bundle.settings })

-- the line of an input
abbrev pub input_line : List ℕ → List ℕ
input_line text = opening (codes "input") (length text)

-- the lines that stand before the inputs in the entry of a bundle: the front up to the first one,
-- and the line of each
abbrev pub front_lines : BundleParts → List (List ℕ)
front_lines bundle = entry_front bundle ∷ map input_line bundle.inputs

-- the front of the entry of a bundle up to the files that were made: its inputs stand there, too
abbrev pub given_front : BundleParts → List ℕ
given_front bundle = entry_front bundle ++ flat_map block_bytes (map input_block bundle.inputs)

-- the name of the file in which the entry of a stage is kept
abbrev pub keep_name : Stage → List ℕ
keep_name stage = (stage_row stage).kept
