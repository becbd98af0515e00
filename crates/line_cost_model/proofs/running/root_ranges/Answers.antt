use Rattle.plan_num.proofs.Common.{◌∙◌, ap, sym, subst, ◌++◌, ◌∷◌, [], List, All}
use Rattle.line_cost_model.specs.declared.range.LineRange.{LineRange}
use Rattle.line_cost_model.specs.Regions.{HasEachFeasible, IsRange}
use Rattle.line_cost_model.proofs.Roots.{root_has_each, root_more, root_whole, root_sound}
use Rattle.line_cost_model.proofs.running.root_ranges.Goals as goal

pub loop-line-preserved : goal.loop-line-preserved
loop-line-preserved c =
    c.in_ok-push.ensures.items
    ∙ ap (λ ranges. ranges ++ record { lo = 0; hi = c.most_of_line-hi.result } ∷ [])
    c.loop-line.invariant
    ∙ sym (root_more c.args.problem.now c.loop-line.line c.most_of_line-hi.result c.most_of_line-hi.ensures)

pub returns-clause-sound : goal.returns-clause-sound
returns-clause-sound c =
    subst (λ (ranges : List LineRange). All IsRange ranges)
    (sym (root_whole c.args.problem.now c.loop-line.ranges.items c.line_count-line-end.result c.loop-line.line
    c.loop-line.invariant c.loop-line-test.false c.line_count-line-end.ensures.count))
    (root_sound c.args.problem.now c.line_count-line-end.ensures.sound)

pub returns-clause-each : goal.returns-clause-each
returns-clause-each c =
    subst (HasEachFeasible c.args.problem.now)
    (sym (root_whole c.args.problem.now c.loop-line.ranges.items c.line_count-line-end.result c.loop-line.line
    c.loop-line.invariant c.loop-line-test.false c.line_count-line-end.ensures.count))
    (root_has_each c.args.problem.now c.line_count-line-end.ensures.sound)
