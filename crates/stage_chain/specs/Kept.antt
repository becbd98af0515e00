-- What a folder keeps of its stages, and the chain that takes what is kept in the place of making it.
use Rattle.std.specs.Prelude.{ℕ, ◌≡◌, is_some, if◌then◌else◌, List, [], ◌∷◌, Option, Some, None}
use Rattle.std.specs.Prelude.{Result, Ok, ⊤}
use Rattle.std.specs.List.{flat_map}
use Rattle.std.specs.FinMap as files
use Rattle.plan_files.specs.declared.write.Write.{Write}
use Rattle.plan_files.specs.declared.write.Write.TheVariants.{Put}
use Rattle.plan_files.specs.Folder.{Folder}
use Rattle.giv_files.specs.declared.made.Made.{Made}
use Rattle.tables.specs.declared.refusal.Refusal.{Refusal}
use Rattle.giv_files.specs.declared.stage.Stage.{Stage}
use Rattle.giv_files.specs.Settings.{BundleParts}
use Rattle.config_keys.specs.Items.{look_in}
use Rattle.config_keys.specs.Values.{effective}
use Rattle.stage_keep.specs.Entries.{IsEntryOf, entry_bytes, entry_for, keep_name}
use Rattle.stage_keep.specs.Honest.{IsHonestKeep, kept_for}
use Rattle.stage_chain.specs.Chain.{Visit, Trace}
use Rattle.stage_chain.specs.Built.{RunParts, chain_under, told_by}
use Rattle.stage_chain.specs.StageParts.{StageParts}

-- what a folder keeps of what a stage is given: what the entry of the stage says, where it has the
-- settings and the inputs of the bundle
abbrev pub kept_in : Folder → BundleParts → Option Made
kept_in keep bundle = kept_for bundle (files.get keep (keep_name bundle.stage))

-- what is kept, or else what is made
abbrev pub kept_or : Option Made → Result Made Refusal → Result Made Refusal
kept_or (Some made) run = Ok made
kept_or None run = run

module _ (S : StageParts) where
  -- what a stage gives over what a folder keeps
  unfoldable pub solve_over : Folder → BundleParts → Result Made Refusal
  solve_over keep bundle = kept_or (kept_in keep bundle) (S.run bundle)

  -- how many steps that takes: none for what is kept
  unfoldable pub work_over : Folder → BundleParts → ℕ
  work_over keep bundle = if is_some (kept_in keep bundle) then 0 else S.work bundle

  -- what the chain over hand files does over what a folder keeps
  unfoldable pub trace_over : Folder → Folder → Trace
  trace_over keep hand = chain_under S (solve_over keep) (effective (look_in hand)) hand

  -- what it makes: the files, the report, how it ends, and how many steps it takes
  unfoldable pub made_over : Folder → Folder → RunParts
  made_over keep hand = told_by (work_over keep) (trace_over keep hand)

-- ---- what is kept of the stages that were made

-- the put of an entry
abbrev pub entry_put : BundleParts → Made → Write
entry_put bundle made =
    Put (keep_name bundle.stage) (entry_bytes bundle.stage (entry_for bundle made))

-- the entry of a stage that was made is put where it was not kept
abbrev pub new_entry : Folder → Visit → List Write
new_entry keep visit =
    if is_some (kept_in keep visit.bundle) then [] else entry_put visit.bundle visit.made ∷ []

abbrev pub new_entries : Folder → List Visit → List Write
new_entries keep visits = flat_map (new_entry keep) visits

-- what is written of a stage that was made is an entry of that stage, and so it is read back
abbrev pub HasEntry : Visit → Type 0
HasEntry visit = IsEntryOf visit.bundle.stage (entry_for visit.bundle visit.made)

-- that is so of each one that was not kept
abbrev pub HaveEntries : Folder → List Visit → Type 0
HaveEntries keep [] = ⊤
HaveEntries keep (visit ∷ visits) =
    (kept_in keep visit.bundle ≡ None → HasEntry visit) × HaveEntries keep visits

-- a folder keeps nothing of any stage
abbrev pub KeepsNothing : Folder → Type 0
KeepsNothing folder = (stage : Stage) → files.get folder (keep_name stage) ≡ None

module _ (S : StageParts) where
  -- What a folder keeps is honest: where an entry has the settings and the inputs of what a stage is
  -- given, the stage makes what the entry says.
  abbrev pub IsKeptHonest : Folder → Type 0
  IsKeptHonest folder = IsHonestKeep S.run (λ stage. files.get folder (keep_name stage))
