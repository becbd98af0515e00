-- The lines of a report.
use Rattle.std.specs.Prelude.{ℕ, List, [], ◌∷◌, ◌++◌, codes, decimal, Option, Some, None}
use Rattle.std.specs.List.{flat_map}
use Rattle.tables.specs.declared.refusal.Refusal.{Refusal}
use Rattle.tables.specs.declared.refusal.Refusal.TheVariants as refusal
use Rattle.giv_files.specs.declared.stage.Stage.{Stage}
use Rattle.tables.specs.CountedTexts.{counted_text}
use Rattle.tables.specs.FileNames.{file_name}
use Rattle.giv_files.specs.Keys.{key_name}
use Rattle.giv_files.specs.Stages.{stage_name}
use Rattle.tables.specs.WhyTexts.{why_text}
use Rattle.config_keys.specs.declared.config_fault.ConfigFault.{ConfigFault}
use Rattle.config_keys.specs.declared.config_fault.ConfigFault.TheVariants as fault
use Rattle.command_line.specs.declared.ends.RunEnd.{RunEnd}
use Rattle.command_line.specs.declared.ends.RunEnd.TheVariants as end
use Rattle.stage_chain.specs.declared.cause.Cause.{Cause}
use Rattle.stage_chain.specs.declared.cause.Cause.TheVariants as cause
use Rattle.stage_chain.specs.Chain.{Visit}

-- a row of a file is refused
abbrev pub row_text : List ℕ → ℕ → List ℕ → List ℕ
row_text name row why =
    codes "refused: " ++ name ++ codes " row " ++ decimal row ++ codes ": " ++ why

-- a file is not there, or it is too long
abbrev pub missing_text : List ℕ → List ℕ
missing_text name = codes "refused: " ++ name ++ codes " is missing"

abbrev pub too_long_text : List ℕ → List ℕ
too_long_text name = codes "refused: " ++ name ++ codes " is too long"

-- why settings are refused
abbrev pub config_text : ConfigFault → List ℕ
config_text (fault.BadRow name row why) = row_text name row (why_text why)
config_text (fault.MissingInclude name) = missing_text name
config_text (fault.IncludeOutside name row) =
    row_text name row (codes "include outside the dataset")
config_text (fault.TooDeep name row) = row_text name row (codes "includes too deep")
config_text (fault.TooManyIncludes name row) = row_text name row (codes "too many includes")
config_text (fault.TooLong name) = too_long_text name
config_text (fault.BadValue key) = codes "refused: value of " ++ key_name key

-- what a stage refuses
abbrev pub refusal_text : Stage → Refusal → List ℕ
refusal_text stage (refusal.BadRow file row why) = row_text (file_name file) row (why_text why)
refusal_text stage (refusal.TooMany what count) =
    codes "refused: too many " ++ counted_text what ++ codes ": " ++ decimal count
refusal_text stage refusal.NoSolution = codes "no solution: " ++ stage_name stage
refusal_text stage (refusal.Spent entries) =
    codes "spent: " ++ stage_name stage ++ codes " after " ++ decimal entries ++ codes " entries"

-- why a chain ends early
unfoldable pub cause_text : Cause → List ℕ
cause_text (cause.BadConfig reason) = config_text reason
cause_text (cause.Missing file) = missing_text (file_name file)
cause_text (cause.TooLong file) = too_long_text (file_name file)
cause_text (cause.Refused stage reason) = refusal_text stage reason

-- a line of a report
abbrev pub line_of : List ℕ → List ℕ
line_of text = text ++ 10 ∷ []

-- the lines of the stages that were made
abbrev pub stage_lines : List Visit → List ℕ
stage_lines visits = flat_map (λ visit. line_of visit.made.report) visits

-- the last line: why the chain ends early, or that all is done
abbrev pub last_line : Option Cause → List ℕ
last_line None = line_of (codes "done")
last_line (Some why) = line_of (cause_text why)

-- how a run ends by what a stage refuses
abbrev pub end_of_refusal : Refusal → RunEnd
end_of_refusal (refusal.BadRow file row why) = end.BadInput
end_of_refusal (refusal.TooMany what count) = end.BadInput
end_of_refusal refusal.NoSolution = end.NoSolution
end_of_refusal (refusal.Spent entries) = end.Spent

-- how a run ends
abbrev pub end_of : Option Cause → RunEnd
end_of None = end.Done
end_of (Some (cause.Refused stage reason)) = end_of_refusal reason
end_of (Some _) = end.BadInput
