-- What a chain of stages is made of.
use Rattle.std.specs.Prelude.{ℕ, ℤ, List, Option, Result, map}
use Rattle.giv_files.specs.declared.made.Made.{Made}
use Rattle.giv_files.specs.declared.made.MadeFile.{MadeFile}
use Rattle.tables.specs.declared.refusal.Refusal.{Refusal}
use Rattle.giv_files.specs.declared.stage.Stage.{Stage}
use Rattle.giv_files.specs.Settings.{BundleParts}
use Rattle.stage_chain.specs.declared.finding.Finding.{Finding}

-- The places of a chain in the order in which they run, each by the stage that runs there where the
-- settings say nothing else; the stage that runs in a place under settings; what a stage makes of what
-- it is given, or why it refuses that; how many steps that takes; what is found, under settings, of
-- files that stand in the place of those that it makes; when such files are right, as those that it
-- makes are; when files from any hand satisfy the model of their place.
pub record StageParts : Type 1 where
  pub places : List Stage
  pub placed : List ℤ → Stage → Stage
  pub run : BundleParts → Result Made Refusal
  pub work : BundleParts → ℕ
  pub verdict : List ℤ → BundleParts → List MadeFile → Option Finding
  pub IsRight : Stage → BundleParts → List MadeFile → Type 0
  pub Satisfies : List ℤ → BundleParts → List MadeFile → Type 0

module _ (S : StageParts) where
  -- the stages that run in the places under settings
  abbrev pub staged : List ℤ → List Stage
  staged values = map (S.placed values) S.places
