-- Where a stage finds its inputs.
use Rattle.std.specs.Prelude.{ℕ, List, Option, Some, None, Result}
use Rattle.plan_files.specs.Folder.{Folder}
use Rattle.tables.specs.declared.file_id.FileId.{FileId}
use Rattle.giv_files.specs.declared.made.MadeFile.{MadeFile}
use Rattle.stage_chain.specs.declared.cause.Cause.{Cause}
use Rattle.stage_chain.specs.Chain.{input_text}
use Rattle.stage_chain.specs.Right.{text_in}

-- what is found of a file: made files are those that a chain made so far, or, where none are given,
-- those that stand in the folder
abbrev pub look_over : Option (List MadeFile) → Folder → FileId → Result (List ℕ) Cause
look_over None folder = text_in folder
look_over (Some made) folder = input_text folder made
