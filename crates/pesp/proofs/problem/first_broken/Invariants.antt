-- The first broken activity is the first one among those that are left.
use Rattle.plan_num.proofs.Common.{◌≡◌, position, drop, not, position_from}
use Rattle.pesp.specs.Timetables.{keeps_in}
use Rattle.pesp.proofs.problem.first_broken.Given as goal

abbrev pub invariant-loop-index : goal.invariant-loop-index
invariant-loop-index l =
    position (λ activity. not (keeps_in l.period l.times activity)) l.activities
    ≡ position_from (λ activity. not (keeps_in l.period l.times activity)) l.index
    (drop l.index l.activities)
