-- What is told of waiting decisions.
use Rattle.std.proofs.Common.{◌≡◌, ℕ, List, [], ◌∷◌, Option, Some, None, IfSome, Result, Ok, Err, subst, sym}
use Rattle.plan_files.specs.declared.store.Got.{Got}
use Rattle.plan_files.proofs.Common.{Folder}
use Rattle.tables.specs.declared.refusal.Refusal.{Refusal}
use Rattle.tables.specs.declared.refusal.StageFault.{StageFault}
use Rattle.tables.proofs.Common.{Refuses, or_else}
use Rattle.tables.specs.declared.refusal.StageFault.TheVariants as fault
use Rattle.giv_files.specs.declared.stage.Stage.{Stage}
use Rattle.giv_files.proofs.Common.{BundleParts}
use Rattle.config_keys.proofs.Common.{look_in}
use Rattle.delay_management.specs.DispositionStage.{disposition_faults}
use Rattle.stage_chain.specs.declared.cause.Cause.{Cause}
use Rattle.stage_chain.specs.declared.chain_end.ChainEnd.{ChainEnd}
use Rattle.stage_chain.specs.Ends.{Gives}
use Rattle.wait_choice.specs.ChoiceStage.{waits_refusals}
use Rattle.plan_queries.specs.declared.answer.Answer.{Answer}
use Rattle.command_line.specs.declared.ends.QueryEnd.TheVariants as end
use Rattle.plan_queries.specs.Queries.{AnswersRight, SavedRightOver, bad_input, end_of_fault, saved_over, waits_name}
use Rattle.stage_chain.specs.Reports.{line_of}

-- ---- a decision that was found is printed

first_none : (faults more : List Refusal) → or_else faults more ≡ [] → faults ≡ []
first_none [] more is = λ i. []
first_none (fault ∷ faults) more is = absurd (cc)

-- the inputs of a decision that was found are not refused
pub printing_ends : (told : Result Answer Cause) (bundle : BundleParts) (penalty budget : ℕ)
    (stage : Stage) (why : StageFault) → waits_refusals bundle penalty budget ≡ []
    → Refuses (disposition_faults bundle) why → Gives told (Err (end_of_fault stage why))
unfolding waits_refusals
printing_ends told bundle penalty budget stage fault.NoMemory none refused = tt
printing_ends told bundle penalty budget stage (fault.Refused reason) none refused =
    absurd (never (disposition_faults bundle) (first_none (disposition_faults bundle) _ none) refused)
  where
    never : (faults : List Refusal) → faults ≡ [] → Refuses faults (fault.Refused reason) → ⊥
    never [] is refused = absurd (cc)
    never (first ∷ more) is refused = absurd (cc)

-- ---- a decision that was saved

module _ (penalty : ℕ) (bundle : BundleParts) where
  pub saved_told : (contents : Option Folder) (got : Got) (result : Result Answer ChainEnd)
      → IfSome contents (λ folder. got ≡ look_in folder waits_name)
      → Gives (saved_over penalty bundle got) result
      → IfSome contents (λ folder. Gives (saved_over penalty bundle (look_in folder waits_name)) result)
  saved_told None got result found told = tt
  saved_told (Some folder) got result found told =
      subst (λ got. Gives (saved_over penalty bundle got) result) found told

  pub saved_right : (contents : Option Folder) (got : Got) (result : Result Answer ChainEnd)
      → IfSome contents (λ folder. got ≡ look_in folder waits_name)
      → AnswersRight (λ _. SavedRightOver penalty got (Ok bundle)) result
      → IfSome contents (λ folder. AnswersRight (λ _. SavedRightOver penalty (look_in folder waits_name) (Ok bundle)) result)
  saved_right None got result found right = tt
  saved_right (Some folder) got result found right =
      subst (λ got. AnswersRight (λ _. SavedRightOver penalty got (Ok bundle)) result) found right

-- an answer by its two parts
pub bad_is : (text : List ℕ) (answer : Answer) → answer.end ≡ end.BadInput
    → answer.report ≡ line_of text
    → ◌≡◌ {A = Result Answer Cause} (Ok (bad_input text)) (Ok answer)
bad_is text answer ends tells = λ i. Ok (record { end = sym ends i; report = sym tells i })
