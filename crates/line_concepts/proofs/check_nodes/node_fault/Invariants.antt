use Rattle.plan_num.proofs.Common.{◌≡◌, ◌∷◌, length}
use Rattle.line_concepts.proofs.Judging.{IsJudged}
use Rattle.line_concepts.proofs.check_nodes.node_fault.Given as goal

-- what is known of the nodes so far, and a range for each line
abbrev pub invariant-loop-place : goal.invariant-loop-place
invariant-loop-place l = record {
  judged : IsJudged l.problem l.fn.best l.tree l.firsts l.place (l.walk.region ∷ l.walk.waiting);
  problem : l.walk.problem ≡ l.problem;
  size : length l.walk.region ≡ length l.problem.lines;
}
