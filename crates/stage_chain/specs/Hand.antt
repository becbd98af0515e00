-- Which files of a dataset people write, and which the program makes.
use Rattle.std.specs.Prelude.{ℕ, ◌≡◌, not, ◌||◌, Bool, true, List, map}
use Rattle.std.specs.List.{list_any, list_all, flat_map}
use Rattle.std.specs.Str.{bytes_eq}
use Rattle.std.specs.FinMap as files
use Rattle.plan_files.specs.Folder.{Folder}
use Rattle.tables.specs.declared.file_id.FileId.{FileId}
use Rattle.giv_files.specs.declared.made.MadeFile.{MadeFile}
use Rattle.giv_files.specs.declared.stage.Stage.{Stage}
use Rattle.tables.specs.FileNames.{file_name}
use Rattle.giv_files.specs.MadeLists.{ids_of}
use Rattle.giv_files.specs.Stages.{all_stages, stage_makes}
use Rattle.stage_keep.specs.Entries.{keep_name}

-- a name is among others
abbrev pub is_among : List ℕ → List (List ℕ) → Bool
is_among name names = list_any (bytes_eq name) names

-- the names of the files that some stages make
abbrev pub names_made_by : List Stage → List (List ℕ)
names_made_by stages = map file_name (flat_map stage_makes stages)

-- the names of the files in which the stages keep what they made last
abbrev pub keep_names : List (List ℕ)
keep_names = map keep_name all_stages

-- people write a file: no stage makes it, and no stage keeps its last result in it
unfoldable pub is_hand : List ℕ → Bool
is_hand name =
    not (is_among name (names_made_by all_stages) || is_among name keep_names)

-- the files of a folder that people write
unfoldable pub hand_of : Folder → Folder
hand_of folder = files.retain_keys folder is_hand

-- people write a file
abbrev pub is_hand_file : FileId → Bool
is_hand_file file = is_hand (file_name file)

-- no file that was made is one that people write
abbrev pub AreNoHandFiles : List MadeFile → Type 0
AreNoHandFiles files = list_all (λ file. not (is_hand_file file)) (ids_of files) ≡ true
