use Rattle.plan_num.proofs.Common.{◌++◌, ◌∷◌, ◌<◌, [], map, get_or, length, ap, subst, sym, ◌∙◌}
use Rattle.plan_num.proofs.Common.{map_push, take_more, All-get_or, get_or_default}
use Rattle.line_cost_model.specs.declared.problem.Longer.{Longer}
use Rattle.line_cost_model.specs.Crossings.{CrossedEdge, no_edge, AreLonger}
use Rattle.line_cost_model.proofs.WholeProblems.{longer_more}
use Rattle.line_cost_model.proofs.problem.longer_lists.Goals as goal

pub loop-edge-preserved : goal.loop-edge-preserved
loop-edge-preserved c =
    let edges = c.args.edges.now in
    let all = c.args.all.now in
    let i = c.loop-edge.edge-index in
    let edge = get_or edges i 0 in
    let old = c.loop-edge.longer.items in
    let one : Longer = record { edge = edge; lines = c.in_ok-lines.lines } in
    let within : edge < length all = All-get_or (λ edge. edge < length all) edges i 0
    c.loop-edge-test.true c.requires in
    let at = c.index-all-edge.is ∙ get_or_default all edge c.index-all-edge.result no_edge within in
    let put = c.in_ok-push.ensures.items in
    record {
      edges = ap (map (λ (one : Longer). one.edge)) put
          ∙ map_push (λ (one : Longer). one.edge) old one
          ∙ ap (λ some. some ++ edge ∷ []) c.loop-edge.invariant.edges
          ∙ sym (take_more edges i 0 c.loop-edge-test.true);
      lines = subst (AreLonger all c.args.line) (sym put)
          (longer_more all c.args.line old one c.loop-edge.invariant.lines within
          (c.in_ok-lines.ensures ∙ ap (λ (at : CrossedEdge). at.lines ++ c.args.line ∷ []) at));
    }
