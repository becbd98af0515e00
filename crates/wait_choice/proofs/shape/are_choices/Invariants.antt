-- Whether the rows that are left fit is whether all do.
use Rattle.plan_num.proofs.Common.{◌≡◌, drop, zip, list_all}
use Rattle.wait_choice.specs.Judged.{is_choice}
use Rattle.wait_choice.proofs.shape.are_choices.Given as goal

abbrev pub invariant-loop-change : goal.invariant-loop-change
invariant-loop-change l =
    list_all (λ at. is_choice at.0 at.1) (zip l.rows l.problem.changes)
    ≡ list_all (λ at. is_choice at.0 at.1) (zip (drop l.change l.rows) (drop l.change l.problem.changes))
