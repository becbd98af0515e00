-- The ids so far are those of the first lines, and of the first edges.
use Rattle.plan_num.proofs.Common.{◌≡◌, map, take}
use Rattle.branch_certificate.proofs.problem_ids.ProblemIds.of.Given as goal

abbrev pub invariant-loop-line : goal.invariant-loop-line
invariant-loop-line l = l.lines.items ≡ map (λ at. at.id) (take l.line l.problem.lines)

abbrev pub invariant-loop-edge : goal.invariant-loop-edge
invariant-loop-edge l = l.edges.items ≡ map (λ at. at.id) (take l.edge l.problem.edges)
