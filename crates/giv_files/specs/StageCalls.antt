-- What the call of a stage gives, by the function that the stage is.
use Rattle.std.specs.Prelude.{ℕ, ◌≡◌, ◌≤◌, ◌+◌, List, [], ◌∷◌, slice_index_or, Result, Ok, Err, ⊤}
use Rattle.giv_files.specs.declared.made.Made.{Made}
use Rattle.tables.specs.declared.refusal.Refusal.{Refusal}
use Rattle.tables.specs.declared.refusal.StageFault.{StageFault}
use Rattle.tables.specs.declared.refusal.StageFault.TheVariants as fault
use Rattle.giv_files.specs.Settings.{BundleParts}

-- the input text of a bundle at a place
abbrev pub input_text : BundleParts → ℕ → List ℕ
input_text bundle place = slice_index_or bundle.inputs place []

-- the first of some faults, or else what a stage comes to
abbrev pub after_faults : List Refusal → Result Made Refusal → Result Made Refusal
after_faults [] outcome = outcome
after_faults (first ∷ more) outcome = Err first

-- the first of some faults, or else what is made
abbrev pub unless_fault : List Refusal → Made → Result Made Refusal
unless_fault faults made = after_faults faults (Ok made)

-- what the call of a stage gives: what is made, or the refusal, exactly as the stage's function says; want of memory is free
abbrev pub StageGives : Result Made Refusal → Result Made StageFault → Type 0
StageGives function (Ok made) = function ≡ Ok made
StageGives function (Err (fault.Refused reason)) = function ≡ Err reason
StageGives function (Err fault.NoMemory) = ⊤

-- the count of steps over the call of a stage: it rises by the stage's work, and by at most that where memory was refused
abbrev pub TakesSteps : {T : Type 0} → ℕ → ℕ → ℕ → Result T StageFault → Type 0
TakesSteps work before now (Ok _) = now ≡ before + work
TakesSteps work before now (Err (fault.Refused reason)) = now ≡ before + work
TakesSteps work before now (Err fault.NoMemory) = (before ≤ now) × (now ≤ before + work)

-- how many steps a stage takes that searches: one, and where its inputs have no fault one for each entry
-- that is listed
abbrev pub work_after : List Refusal → ℕ → ℕ
work_after [] entries = 1 + entries
work_after (first ∷ more) entries = 1
