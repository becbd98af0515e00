use Rattle.plan_num.proofs.Common.{◌∙◌, length, ap, arith, w64}
use Rattle.std.proofs.lemmas.Int.{to_z-of_z}
use Rattle.line_cost_model.proofs.Common.{ProblemParts}
use Rattle.sample_problems.proofs.LinesOfProblems.{ids_rise, line_over}
use Rattle.sample_problems.proofs.problems.one_edge.Goals as goal

pub push_line-requires-clause-line : goal.push_line-requires-clause-line
push_line-requires-clause-line c =
    line_over (length c.loop-id.problem.edges) c.loop-id.id _ c.loop-id.invariant.edges
    (to_z-of_z w64 c.from.result (record { sfits = c.from.type_inv }) ∙ c.from.ensures)
    (omega (arith, c.loop-id-test.true, c.requires))

pub loop-id-preserved : goal.loop-id-preserved
loop-id-preserved c = record {
  edges = ap (λ (problem : ProblemParts). length problem.edges) c.in_ok-push_line.ensures.ok
      ∙ c.loop-id.invariant.edges;
  rising = ids_rise c.loop-id.id _ c.loop-id.problem c.push_line.new.self c.loop-id.invariant.rising
      (to_z-of_z w64 c.from.result (record { sfits = c.from.type_inv }) ∙ c.from.ensures)
      c.in_ok-push_line.ensures.ok;
}
