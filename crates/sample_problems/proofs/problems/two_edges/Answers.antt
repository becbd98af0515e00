use Rattle.plan_num.proofs.Common.{◌<◌, ℕ, zero, suc, length, nat_eq, List, [], ◌∷◌, pos, refl}
use Rattle.plan_num.proofs.Common.{arith, ap, ints, length_push, All, IsDistinct}
use Rattle.line_cost_model.proofs.Common.{ProblemParts}
use Rattle.sample_problems.proofs.LinesOfProblems.{one_apart, one_there, two_apart, two_there}
use Rattle.sample_problems.proofs.problems.two_edges.Goals as goal

two_edges : (c : goal.After-push_line-arg-2-1) → 1 < length c.push_edge-2.new.self.edges
two_edges c =
    let first = ap (λ (p : ProblemParts). length p.edges) c.in_ok-push_edge.ensures.ok in
    let second = ap (λ (p : ProblemParts). length p.edges) c.in_ok-push_edge-2.ensures.ok in
    omega (arith, first, second, length_push c.push_edge.new.self.edges (record { id = pos 2; least = c.args.least; most = c.args.most }), length_push c.new-problem.result.edges (record { id = pos 1; least = 2; most = c.args.most }))

pub push_line-requires-clause-line : goal.push_line-requires-clause-line
push_line-requires-clause-line c = record {
  id = record { low = omega (arith, ints); high = omega (arith, ints) };
  cheap = omega arith;
  some = omega arith;
  distinct = two_apart;
  there = two_there (length c.push_edge-2.new.self.edges) (two_edges c);
}

one_edge : (c : goal.After-push_line-arg-4-1) → 0 < length c.push_line.new.self.edges
one_edge c =
    let second = ap (λ (p : ProblemParts). length p.edges) c.in_ok-push_edge-2.ensures.ok in
    let lines = ap (λ (p : ProblemParts). length p.edges) c.in_ok-push_line.ensures.ok in
    omega (arith, second, lines, length_push c.push_edge.new.self.edges (record { id = pos 2; least = c.args.least; most = c.args.most }), length_push c.new-problem.result.edges (record { id = pos 1; least = 2; most = c.args.most }))

pub push_line-requires-2-clause-line : goal.push_line-requires-2-clause-line
push_line-requires-2-clause-line c = record {
  id = record { low = omega (arith, ints); high = omega (arith, ints) };
  cheap = omega arith;
  some = omega arith;
  distinct = one_apart;
  there = one_there (length c.push_line.new.self.edges) (one_edge c);
}
