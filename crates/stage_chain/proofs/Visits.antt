-- What a visit of a chain is, and what ends one.
use Rattle.plan_num.proofs.Common.{arith, ◌≡◌, ℕ, ℤ, List, [], ◌∷◌, ◌++◌, ◌⊎◌, inl, inr, Option}
use Rattle.plan_num.proofs.Common.{Some, None, Result, Ok, Err, refl}
use Rattle.plan_files.proofs.Common.{Folder}
use Rattle.giv_files.specs.declared.made.Made.{Made}
use Rattle.giv_files.specs.declared.made.MadeFile.{MadeFile}
use Rattle.giv_files.specs.declared.stage.Stage.{Stage}
use Rattle.giv_files.proofs.Common.{BundleParts, stage_inputs}
use Rattle.tables.specs.declared.refusal.Refusal.{Refusal}
use Rattle.stage_chain.specs.declared.cause.Cause.{Cause}
use Rattle.stage_chain.specs.declared.cause.Cause.TheVariants as cause
use Rattle.stage_chain.specs.Chain.{Visit, Halt, Trace, texts_of, bundle_told, tried}
use Rattle.stage_chain.specs.Chain.{solved, go_on, visit_of, chain_from}

-- a bundle has the stage for which it is made
pub bundle_stage : (values : List ℤ) (stage : Stage) (texts : Result (List (List ℕ)) Cause)
    (bundle : BundleParts) → bundle_told values stage texts ≡ Ok bundle → bundle.stage ≡ stage
bundle_stage values stage (Err why) bundle e = absurd (cc)
bundle_stage values stage (Ok texts) bundle e = grind arith

module _ (solve : BundleParts → Result Made Refusal) (values : List ℤ) (hand : Folder) where
  -- what a stage is given, where so many files were made before it
  abbrev pub given_to : List MadeFile → Stage → Result BundleParts Cause
  given_to before stage =
      bundle_told values stage (texts_of values hand before (stage_inputs stage))

  -- a stage was made of what it was given
  pub record IsVisit (before : List MadeFile) (stage : Stage) (visit : Visit) : Type 0 where
    pub given : given_to before stage ≡ Ok visit.bundle
    pub solved : solve visit.bundle ≡ Ok visit.made

  -- a stage refused what it was given
  pub record IsRefused (before : List MadeFile) (stage : Stage) (halt : Halt) : Type 0 where
    pub bundle : BundleParts
    pub reason : Refusal
    pub given : given_to before stage ≡ Ok bundle
    pub solved : solve bundle ≡ Err reason
    pub cause : halt.cause ≡ cause.Refused bundle.stage reason

  -- a stage ended the chain: it was not given its inputs, or it refused them
  abbrev pub IsHalt : List MadeFile → Stage → Halt → Type 0
  IsHalt before stage halt = (given_to before stage ≡ Err halt.cause) ⊎ IsRefused before stage halt

  -- the visits of some stages one after the other, where so many files were made before them, up to
  -- one that ended the chain
  abbrev pub AreVisits : List MadeFile → List Stage → List Visit → Option Halt → Type 0
  AreVisits before [] [] None = Unit {0}
  AreVisits before (stage ∷ stages) [] (Some halt) = IsHalt before stage halt
  AreVisits before (stage ∷ stages) (visit ∷ visits) halt =
      IsVisit before stage visit × AreVisits (before ++ visit.made.files) stages visits halt
  AreVisits _ _ _ _ = ⊥

  abbrev AreVisitsOf : List MadeFile → List Stage → Trace → Type 0
  AreVisitsOf before stages trace = AreVisits before stages trace.visits trace.halt

  solved_visits : (before : List MadeFile) (stage : Stage) (stages : List Stage)
      (bundle : BundleParts) (result : Result Made Refusal) (rest : Visit → Trace)
      → given_to before stage ≡ Ok bundle → solve bundle ≡ result
      → ((visit : Visit) → AreVisitsOf (before ++ visit.made.files) stages (rest visit))
      → AreVisitsOf before (stage ∷ stages) (go_on (solved solve values hand bundle result) rest)
  solved_visits before stage stages bundle (Ok made) rest given is more =
      (record { given = given; solved = is }, more (record { bundle = bundle; made = made }))
  solved_visits before stage stages bundle (Err reason) rest given is more =
      inr (record { bundle = bundle; reason = reason; given = given; solved = is; cause = refl })

  tried_visits : (before : List MadeFile) (stage : Stage) (stages : List Stage)
      (told : Result BundleParts Cause) (rest : Visit → Trace) → given_to before stage ≡ told
      → ((visit : Visit) → AreVisitsOf (before ++ visit.made.files) stages (rest visit))
      → AreVisitsOf before (stage ∷ stages) (go_on (tried solve values hand told) rest)
  tried_visits before stage stages (Ok bundle) rest given more =
      solved_visits before stage stages bundle (solve bundle) rest given refl more
  tried_visits before stage stages (Err why) rest given more = inl given

  -- a chain is made of visits
  pub chain_visits : (before : List MadeFile) (stages : List Stage)
      → AreVisitsOf before stages (chain_from solve values hand before stages)
  unfolding visit_of
  chain_visits before [] = tt
  chain_visits before (stage ∷ stages) =
      tried_visits before stage stages (given_to before stage) _ refl
      (λ visit. chain_visits (before ++ visit.made.files) stages)
