use Rattle.plan_num.proofs.Common.{◌≡◌, ◌<ℤ◌, ◌+◌, pos, length, All}
use Rattle.sample_problems.proofs.problems.one_edge.Given as goal

-- the one edge, and lines whose ids are less than the next one
abbrev pub invariant-loop-id : goal.invariant-loop-id
invariant-loop-id l = record {
  edges : length l.problem.edges ≡ 1;
  rising : All (λ line. line.id <ℤ pos (l.id + 1)) l.problem.lines;
}
