-- What is right about the loads that are made.
use Rattle.std.specs.Prelude.{◌≡◌, ℕ, List, [], ◌∷◌, length}
use Rattle.tables.specs.declared.file_id.FileId.TheVariants as file
use Rattle.giv_files.specs.declared.made.Made.{Made}
use Rattle.giv_files.specs.declared.made.MadeFile.{MadeFile}
use Rattle.tables.specs.Columns.{load_columns}
use Rattle.tables.specs.Inputs.{input_faults}
use Rattle.giv_files.specs.Settings.{BundleParts}
use Rattle.tables.specs.Writing.{ReadsBack}
use Rattle.ptn_network.specs.Loads.{load_input}
use Rattle.demand_load.specs.LoadStage.{network_in, loads_in, load_faults}
use Rattle.demand_load.specs.LoadTables.{load_rows}

-- The files that are made are right: the inputs have no fault, and there is one file. Read again,
-- it has the load of each edge over the inputs, with its bounds of frequency, and no fault by the
-- rules of its kind.
pub record LoadFilesAreRight (bundle : BundleParts) (files : List MadeFile) : Type 0 where
  pub inputs : load_faults bundle ≡ []
  pub each : length (loads_in bundle) ≡ length (network_in bundle.inputs).edges
  pub text : List ℕ
  pub one : files ≡ record { file = file.Load; text = text } ∷ []
  pub reads : ReadsBack load_columns (load_rows (network_in bundle.inputs).edges (loads_in bundle)) text
  pub accepted : input_faults (load_input file.Load (network_in bundle.inputs).edges) text ≡ []

-- what is made is right
abbrev pub LoadsAreRight : BundleParts → Made → Type 0
LoadsAreRight bundle made = LoadFilesAreRight bundle made.files
