-- How the chain from scratch ends, in the words of its searches.
use Rattle.std.specs.Prelude.{◌≡◌, ◌≢◌, List, Contains, None}
use Rattle.plan_files.specs.Folder.{Folder}
use Rattle.giv_files.specs.declared.stage.Stage.{Stage}
use Rattle.giv_files.specs.Settings.{BundleParts}
use Rattle.command_line.specs.declared.ends.RunEnd.TheVariants as end
use Rattle.stage_chain.specs.Built.{trace_of}
use Rattle.stage_chain.specs.Chain.{handed}
use Rattle.stage_chain.specs.Hand.{hand_of}
use Rattle.stage_chain.specs.Kept.{kept_in, trace_over}
use Rattle.planning_stages.specs.Planning.{planning}
use Rattle.planning_stages.specs.Searches.{CanBeFound, HasNoSolution, IsSpent}
use Rattle.stage_driver.specs.PlanningChain.{made, run_over}

-- what the chain over hand files hands to its stages
abbrev pub handed_in : Folder → List BundleParts
handed_in hand = handed (trace_of planning hand)

-- it hands to a stage what has a property
abbrev pub SomeHanded : (Stage → BundleParts → Type 0) → Folder → Type 0
SomeHanded Has hand = (bundle : BundleParts) × Contains (handed_in hand) bundle × Has bundle.stage bundle

-- No hand file or key is refused and no limit is exceeded, and each search that is handed its inputs has
-- a solution, and a budget that suffices.
pub record CanBeDone (hand : Folder) : Type 0 where
  pub fine : (made hand).end ≢ end.BadInput
  pub found : (bundle : BundleParts) → Contains (handed_in hand) bundle → CanBeFound bundle.stage bundle

-- The chain ends with no solution exactly where a search is handed what has none within its budget, and
-- spent exactly where one is handed what it lists beyond its budget. It ends done where it can.
pub record EndsAsSolved (hand : Folder) : Type 0 where
  pub none : (made hand).end ≡ end.NoSolution → SomeHanded HasNoSolution hand
  pub none_comes : SomeHanded HasNoSolution hand → (made hand).end ≡ end.NoSolution
  pub spent : (made hand).end ≡ end.Spent → SomeHanded IsSpent hand
  pub spent_comes : SomeHanded IsSpent hand → (made hand).end ≡ end.Spent
  pub done : CanBeDone hand → (made hand).end ≡ end.Done

-- what a run over a folder, with all that is kept there, hands to its stages
abbrev pub handed_over : Folder → List BundleParts
handed_over folder = handed (trace_over planning folder (hand_of folder))

-- it hands to a stage what has a property, and nothing that is kept is of the same settings and inputs
abbrev pub SomeMade : (Stage → BundleParts → Type 0) → Folder → Type 0
SomeMade Has folder = (bundle : BundleParts) × Contains (handed_over folder) bundle
    × (kept_in folder bundle ≡ None) × Has bundle.stage bundle

-- A run over a folder refuses no file, key or count, and each search that is not kept and is handed its
-- inputs has a solution, and a budget that suffices.
pub record CanBeDoneOver (folder : Folder) : Type 0 where
  pub fine : (run_over folder).end ≢ end.BadInput
  pub found : (bundle : BundleParts) → Contains (handed_over folder) bundle
      → kept_in folder bundle ≡ None → CanBeFound bundle.stage bundle

-- A run over a folder, whatever is kept there, ends with no solution exactly where a search that is not
-- kept is handed what has none within its budget, and spent exactly where one is handed what it lists
-- beyond its budget. It ends done where it can.
pub record EndsAsSolvedOver (folder : Folder) : Type 0 where
  pub none : (run_over folder).end ≡ end.NoSolution → SomeMade HasNoSolution folder
  pub none_comes : SomeMade HasNoSolution folder → (run_over folder).end ≡ end.NoSolution
  pub spent : (run_over folder).end ≡ end.Spent → SomeMade IsSpent folder
  pub spent_comes : SomeMade IsSpent folder → (run_over folder).end ≡ end.Spent
  pub done : CanBeDoneOver folder → (run_over folder).end ≡ end.Done
