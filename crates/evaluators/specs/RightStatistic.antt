-- What is right about the statistic that is made.
use Rattle.std.specs.Prelude.{◌≡◌, ℕ, List, [], ◌∷◌, map, Some}
use Rattle.tables.specs.declared.file_id.FileId.TheVariants as file
use Rattle.giv_files.specs.declared.made.Made.{Made}
use Rattle.giv_files.specs.declared.made.MadeFile.{MadeFile}
use Rattle.text_fields.specs.Rows.{rows}
use Rattle.giv_files.specs.Settings.{BundleParts}
use Rattle.plan_num.specs.Number.{number_of}
use Rattle.plan_num.specs.Print.{fixed_text}
use Rattle.evaluators.specs.declared.measure.Measure.{Measure}
use Rattle.evaluators.specs.Statistic.{measure_name, measures, value_of}
use Rattle.evaluators.specs.StatisticStage.{statistic_faults, statistic_in}

-- The file that is made is right: the inputs have no fault, and there is one file. Read again, its
-- rows are the names and the numbers of the fourteen measures, in their order, and each number
-- spells the value of its measure.
pub record StatisticFilesAreRight (bundle : BundleParts) (files : List MadeFile) : Type 0 where
  pub inputs : statistic_faults bundle ≡ []
  pub text : List ℕ
  pub one : files ≡ record { file = file.Statistic; text = text } ∷ []
  pub reads : map (λ row. row.fields) (rows text)
      ≡ map (λ measure. measure_name measure ∷ fixed_text (value_of (statistic_in bundle) measure)
      ∷ []) measures
  pub spells : (measure : Measure)
      → number_of (fixed_text (value_of (statistic_in bundle) measure))
      ≡ Some (value_of (statistic_in bundle) measure)

-- what is made is right
abbrev pub StatisticIsRight : BundleParts → Made → Type 0
StatisticIsRight bundle made = StatisticFilesAreRight bundle made.files
