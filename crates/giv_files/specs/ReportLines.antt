-- The line of a stage in a report, without its end.
use Rattle.std.specs.Prelude.{ℕ, List, [], ◌∷◌, ◌++◌, codes, decimal}
use Rattle.giv_files.specs.declared.stage.Stage.{Stage}
use Rattle.giv_files.specs.Stages.{stage_name}

-- a number with what it counts
abbrev pub count_text : ℕ → List ℕ → List ℕ
count_text count what = decimal count ++ codes " " ++ what

-- parts: the first behind a mark, the others each behind a comma
abbrev pub marked : List ℕ → List (List ℕ) → List ℕ
marked mark [] = []
marked mark (part ∷ parts) = mark ++ part ++ marked (codes ", ") parts

-- the line of a stage: its name, and the parts
abbrev pub report_line : Stage → List (List ℕ) → List ℕ
report_line stage parts = stage_name stage ++ marked (codes ": ") parts
