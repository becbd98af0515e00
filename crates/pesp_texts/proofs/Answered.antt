-- Where a claim is above all that slacks can cost a text has no timetable.
use Rattle.plan_num.proofs.Common.{◌≡◌, ℕ, List, Result, Ok, Err, None, true, IfOk}
use Rattle.pesp.specs.Timetables.{IsTimetable}
use Rattle.pesp_judge.specs.Weighted.{WeightedProblem, problem_of}
use Rattle.pesp_texts.specs.declared.answers.CheckedBound.{CheckedBound}
use Rattle.pesp_texts.specs.declared.answers.AnswerStop.{AnswerStop}
use Rattle.pesp_texts.specs.Texts.{NoTimetable, Says}
use Rattle.std.proofs.Common.{ℤ}

pub none_said : (text : List ℕ) (period : ℕ) (names : List ℤ) (weighted : WeightedProblem)
    → Says text period names weighted → (result : Result CheckedBound AnswerStop)
    → IfOk result (λ it. it.fault ≡ None → it.above_all ≡ true
    → (times : List ℕ) → IsTimetable (problem_of weighted) times → ⊥)
    → IfOk result (λ it. it.fault ≡ None → it.above_all ≡ true → NoTimetable text period)
none_said text period names weighted says (Ok it) none = λ fine above.
    record { names = names; weighted = weighted; says = says; none = none fine above }
none_said text period names weighted says (Err stop) none = none
