-- Which lists of files a stage may make.
use Rattle.std.specs.Prelude.{List, [], ◌∷◌, map}
use Rattle.std.specs.List.{Contains}
use Rattle.std.specs.Option.{option_to_list}
use Rattle.tables.specs.declared.file_id.FileId.{FileId}
use Rattle.giv_files.specs.declared.made.MadeFile.{MadeFile}
use Rattle.giv_files.specs.declared.stage.Stage.{Stage}
use Rattle.giv_files.specs.Stages.{stage_makes, stage_row}

-- the lists of files that a stage may make, in order: all, or the one that it may make alone
abbrev pub made_lists : Stage → List (List FileId)
made_lists stage =
    stage_makes stage ∷ map (λ file. file ∷ []) (option_to_list (stage_row stage).alone)

-- files are one of the lists that a stage may make
abbrev pub MakesAs : Stage → List FileId → Type 0
MakesAs stage files = Contains (made_lists stage) files

-- which files were made
abbrev pub ids_of : List MadeFile → List FileId
ids_of files = map (λ file. file.file) files
