-- What the call of a stage gives, from the faults of its inputs and from what is made.
use Rattle.plan_num.proofs.Common.{◌≡◌, ◌⊎◌, ℕ, ◌+◌, Bool, true, List, [], ◌∷◌, refl, ap, subst}
use Rattle.plan_num.proofs.Common.{sym, ◌∙◌, Ok, Err, Result, inr, arith, IfOk, same_Some}
use Rattle.giv_files.specs.declared.made.Made.{Made}
use Rattle.tables.specs.declared.file_id.FileId.{FileId}
use Rattle.tables.specs.declared.refusal.Refusal.{Refusal}
use Rattle.tables.specs.declared.refusal.StageFault.{StageFault}
use Rattle.tables.proofs.Common.{Refuses, NamesInput, NamesOnly, AllName, names_only}
use Rattle.tables.specs.declared.refusal.StageFault.TheVariants as stage
use Rattle.giv_files.specs.StageCalls.{StageGives, TakesSteps, after_faults, unless_fault, work_after}

-- a fault that refuses the inputs is what the stage gives
pub refused_after : (faults : List Refusal) (outcome : Result Made Refusal) (fault : StageFault)
    → Refuses faults fault → StageGives (after_faults faults outcome) (Err fault)
refused_after [] outcome (stage.Refused reason) h = cc
refused_after (first ∷ more) outcome (stage.Refused reason) h = ap (λ r. Err r) (same_Some _ _ h)
refused_after faults outcome stage.NoMemory h = tt

pub stage_refused : (faults : List Refusal) (made : Made) (fault : StageFault) → Refuses faults fault
    → StageGives (unless_fault faults made) (Err fault)
stage_refused faults made = refused_after faults (Ok made)

-- what is made is made where there is no fault
pub made_after : (faults : List Refusal) (outcome : Result Made Refusal) (made : Made)
    → after_faults faults outcome ≡ Ok made → (faults ≡ []) × (outcome ≡ Ok made)
made_after [] outcome made is = (refl, is)
made_after (first ∷ more) outcome made is = absurd (cc)

-- what a stage makes where it refuses nothing
pub made_unless : (faults : List Refusal) (made result : Made) → unless_fault faults made ≡ Ok result → made ≡ result
made_unless [] made result e = cc
made_unless (first ∷ more) made result e = absurd (cc)

-- and then nothing is at fault
pub none_unless : (faults : List Refusal) (made result : Made) → unless_fault faults made ≡ Ok result → faults ≡ []
none_unless [] made result e = refl
none_unless (first ∷ more) made result e = absurd (cc)

-- what is refused is one of the faults
pub refused_names : (test : FileId → Bool) (faults : List Refusal) (made : Made) (reason : Refusal)
    → AllName test faults → unless_fault faults made ≡ Err reason → NamesInput test reason
refused_names test [] made reason h e = absurd (cc)
refused_names test (first ∷ more) made reason h e =
    let same : first ≡ reason = cc in subst (NamesInput test) same h.0

-- a refusal is one of the faults, or that of what the stage comes to
pub names_after : (test : FileId → Bool) (faults : List Refusal) (outcome : Result Made Refusal)
    (reason : Refusal) → AllName test faults → (outcome ≡ Err reason → NamesOnly test reason)
    → after_faults faults outcome ≡ Err reason → NamesOnly test reason
names_after test [] outcome reason named so is = so is
names_after test (first ∷ more) outcome reason named so is =
    let same : first ≡ reason = cc in subst (NamesOnly test) same (names_only test first named.0)

-- what is refused and names no input is refused over inputs without a fault
pub fine_after : (faults : List Refusal) (outcome : Result Made Refusal) (reason : Refusal)
    → AllName (λ _. true) faults → ¬ NamesInput (λ _. true) reason
    → after_faults faults outcome ≡ Err reason → faults ≡ []
fine_after [] outcome reason named other is = refl
fine_after (first ∷ more) outcome reason named other is = grind arith

-- inputs that are refused take one step
pub refused_steps : (faults : List Refusal) (entries before now : ℕ) (fault : StageFault)
    → Refuses faults fault → now ≡ before + 1
    → TakesSteps {T = Made} (work_after faults entries) before now (Err fault)
refused_steps [] entries before now (stage.Refused reason) h is = absurd (cc)
refused_steps (first ∷ more) entries before now (stage.Refused reason) h is = is
refused_steps [] entries before now stage.NoMemory h is = (omega (arith, is), omega (arith, is))
refused_steps (first ∷ more) entries before now stage.NoMemory h is =
    (omega (arith, is), omega (arith, is))

-- what a call gives that meets the stage is right
pub right_given : {Right : Made → Type 0} (function : Result Made Refusal)
    (result : Result Made StageFault) → ((made : Made) → function ≡ Ok made → Right made)
    → StageGives function result → IfOk result Right
right_given function (Ok made) right given = right made given
right_given function (Err fault) right given = tt

-- a call gives a refusal where that is what the stage comes to, or memory was refused
pub gives_only : (function : Result Made Refusal) (result : Result Made StageFault) (why : Refusal)
    → StageGives function result → result ≡ Err (stage.Refused why) → function ≡ Err why
gives_only function result why gives is = subst (StageGives function) is gives

pub gives_always : (function : Result Made Refusal) (result : Result Made StageFault) (why : Refusal)
    → StageGives function result → function ≡ Err why
    → (result ≡ Err (stage.Refused why)) ⊎ (result ≡ Err stage.NoMemory)
gives_always function (Ok made) why gives is = absurd (let both = sym gives ∙ is in cc)
gives_always function (Err stage.NoMemory) why gives is = inr refl
gives_always function (Err (stage.Refused other)) why gives is = grind arith
