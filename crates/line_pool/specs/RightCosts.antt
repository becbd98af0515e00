-- What is right about the costs that are made.
use Rattle.std.specs.Prelude.{◌≡◌, ℕ, List, [], ◌∷◌, map}
use Rattle.tables.specs.declared.file_id.FileId.TheVariants as file
use Rattle.giv_files.specs.declared.made.Made.{Made}
use Rattle.giv_files.specs.declared.made.MadeFile.{MadeFile}
use Rattle.tables.specs.Columns.{pool_cost_columns}
use Rattle.tables.specs.Inputs.{input_faults}
use Rattle.giv_files.specs.Settings.{BundleParts}
use Rattle.giv_files.specs.StageCalls.{input_text}
use Rattle.tables.specs.Tables.{TableRow}
use Rattle.tables.specs.Writing.{ReadsBack}
use Rattle.line_pool.specs.CostStage.{network_in, cost_faults, cost_row}
use Rattle.line_walks.specs.PoolCosts.{pool_cost_input}
use Rattle.line_walks.specs.Pools.{LineParts, pool_of}

-- the lines of a bundle, whose third input is the text of the pool
abbrev pub lines_in : BundleParts → List LineParts
lines_in bundle = pool_of (network_in bundle.inputs) (input_text bundle 2)

-- the id, the length and the cost of each of its lines
abbrev pub cost_rows : BundleParts → List TableRow
cost_rows bundle = map (cost_row bundle.settings (network_in bundle.inputs).edges) (lines_in bundle)

-- The files that are made are right: the inputs have no fault, and there is one file. Read again,
-- it has the length and the cost of each line over the inputs, and no fault by the rules of its
-- kind.
pub record CostFilesAreRight (bundle : BundleParts) (files : List MadeFile) : Type 0 where
  pub inputs : cost_faults bundle ≡ []
  pub text : List ℕ
  pub one : files ≡ record { file = file.PoolCost; text = text } ∷ []
  pub reads : ReadsBack pool_cost_columns (cost_rows bundle) text
  pub accepted : input_faults (pool_cost_input (lines_in bundle)) text ≡ []

-- what is made is right
abbrev pub CostsAreRight : BundleParts → Made → Type 0
CostsAreRight bundle made = CostFilesAreRight bundle made.files
