use Rattle.plan_num.proofs.Common.{◌++◌, ◌∷◌, ◌<ℤ◌, [], w64, sym, subst, ap, ◌∙◌, All}
use Rattle.std.proofs.lemmas.Int.{to_z-of_z}
use Rattle.line_cost_model.specs.Problems.{ProblemParts}
use Rattle.line_cost_model.proofs.WholeProblems.{edge_pushed}
use Rattle.line_cost_model.proofs.problem.LineProblem.push_edge.Goals as goal

pub invariant_of-self-2 : goal.invariant_of-self-2
invariant_of-self-2 c =
    let edges = c.self.inside.edges.items in
    let same = to_z-of_z w64 c.args.id c.ranges.id in
    let none = ap (λ (p : ProblemParts). p.lines) c.self.view_is ∙ c.requires.no_line in
    let rising = subst (λ (p : ProblemParts). All (λ other. other.id <ℤ c.args.id) p.edges)
    (sym c.self.view_is) c.requires.rising in
    edge_pushed edges c.push.new.self.items c.self.inside.lines.items _ c.self.invariant none c.requires.edge rising
    (c.in_ok-push.ensures.items ∙ ap (λ edge. edges ++ edge ∷ []) c.new.ensures
    ∙ ap (λ id. edges ++ record
    { bounds = record { id = id; least = c.args.least; most = c.args.most }; lines = [] } ∷
    []) same)
