-- What a question tells, once its report is written.
use Rattle.std.proofs.Common.{arith, ◌≡◌, ◌∙◌, ℕ, ◌+◌, List, Option, Some, None, IfSome, subst}
use Rattle.plan_files.proofs.Common.{Folder}
use Rattle.plan_queries.specs.declared.answer.Answer.{Answer}
use Rattle.command_line.specs.declared.ends.QueryEnd.{QueryEnd}
use Rattle.command_line.specs.declared.ends.QueryEnd.TheVariants as query
use Rattle.command_line.specs.declared.form.Form.{Form}
use Rattle.plan_queries.specs.Queries.{AnswersIn, steps_of}
use Rattle.command_line.specs.declared.status.Status.{Status}
use Rattle.command_line.specs.declared.status.Status.TheVariants.{Done, Usage, BadInput, NoSolution}
use Rattle.command_line.specs.declared.status.Status.TheVariants.{Spent, FileFault, SinkFault}
use Rattle.command_line.specs.declared.status.Status.TheVariants.{NoMemory, Uncertified}
use Rattle.command_line.specs.Statuses.{status_of_query}
use Rattle.command_line.specs.Reports.{Reported}
use Rattle.lintim_cli.specs.Top.{FormTells}

-- no answer ends with a file fault
no_fault : (ended : QueryEnd) → FileFault ≡ status_of_query ended → ⊥
no_fault query.Done is = cc
no_fault query.BadInput is = cc
no_fault query.Spent is = cc
no_fault query.Uncertified is = cc

module _ (form : Form) (folder : Folder) (answer : Answer) (old new : Option (List ℕ))
    (faults_before faults_now before now : ℕ) (status : Status) (given : AnswersIn form folder answer)
    (steps : now ≡ before + steps_of form folder) (ends : status ≡ status_of_query answer.end) where
  told_by : (result : Status)
      → Reported answer.report status old new faults_before faults_now result
      → FormTells form folder old new before now result
  told_by Done (is, whole) = (answer, given, is ∙ ends, whole.out, steps)
  told_by Usage (is, whole) = (answer, given, is ∙ ends, whole.out, steps)
  told_by BadInput (is, whole) = (answer, given, is ∙ ends, whole.out, steps)
  told_by NoSolution (is, whole) = (answer, given, is ∙ ends, whole.out, steps)
  told_by Spent (is, whole) = (answer, given, is ∙ ends, whole.out, steps)
  told_by Uncertified (is, whole) = (answer, given, is ∙ ends, whole.out, steps)
  told_by FileFault (is, whole) = absurd (no_fault answer.end (is ∙ ends))
  told_by NoMemory nothing = omega (arith, steps)
  told_by SinkFault broken = (answer, given, broken.out, steps)

-- What is told of a question with an answer, where the files can be read.
pub form_tells : (form : Form) (contents : Option Folder) (answer : Answer) (old new : Option (List ℕ))
    (faults_before faults_now before now : ℕ) (status result : Status)
    → IfSome contents (λ folder. AnswersIn form folder answer)
    → IfSome contents (λ folder. now ≡ before + steps_of form folder)
    → status ≡ status_of_query answer.end
    → (text : List ℕ) → text ≡ answer.report
    → Reported text status old new faults_before faults_now result
    → IfSome contents (λ folder. FormTells form folder old new before now result)
form_tells form None answer old new faults_before faults_now before now status result given steps ends text same
    reported =
    tt
form_tells form (Some folder) answer old new faults_before faults_now before now status result given steps ends text
    same reported =
    told_by form folder answer old new faults_before faults_now before now status given steps ends result
    (subst (λ text. Reported text status old new faults_before faults_now result) same reported)
