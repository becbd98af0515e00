use Rattle.plan_num.proofs.Common.{◌∙◌, ◌∷◌, [], ◌+◌, List, to_z, of_z, slice_get, if◌then◌else◌}
use Rattle.plan_num.proofs.Common.{ap, sym, subst, arith, w128}
use Rattle.std.proofs.lemmas.Int.{to_z-of_z}
use Rattle.line_cost_model.specs.declared.range.LineRange.{LineRange}
use Rattle.line_cost_model.proofs.Common.{ProblemParts}
use Rattle.line_concepts.specs.TreeFaults.{placed_faults, splits_outside}
use Rattle.line_concepts.specs.Nodes.{NamesWhatIs}
use Rattle.line_concepts.specs.Walks.{SplitsOne, noted}
use Rattle.line_concepts.proofs.Judging.{IsJudged, judged_all, judged_last, judged_more}
use Rattle.line_concepts.proofs.Judging.{judged_none}
use Rattle.line_concepts.proofs.Judging.{all_placed, each_has, names_at, split_is_first, splits_one}
use Rattle.line_concepts.proofs.check_nodes.node_fault.Goals as goal

pub loop-place-init : goal.loop-place-init
loop-place-init c = grind (arith, IsJudged, to_z-of_z, judged_none, each_has)

pub splits_outside-requires : goal.splits_outside-requires
splits_outside-requires c =
    subst (λ (region : List LineRange). SplitsOne region c.node-node.result.now)
    (sym c.region.ensures.ranges)
    (splits_one c.args.problem.now c.loop-place.walk.region c.node-node.result.now
    c.loop-place.invariant.size (names_at c.args.problem.now c.args.tree.now c.loop-place.place
    c.node-node.result.now c.requires c.node-node.ensures))

pub returns-then-splits_outside-clause-first : goal.returns-then-splits_outside-clause-first
returns-then-splits_outside-clause-first c = grind (arith, split_is_first, IsJudged, to_z-of_z)

pub note-requires : goal.note-requires
note-requires c =
    subst (λ (problem : ProblemParts). NamesWhatIs problem c.node-node.result.now)
    (sym (c.region-in-loop-place.ensures.problem ∙ c.loop-place.invariant.problem))
    (names_at c.args.problem.now c.args.tree.now c.loop-place.place c.node-node.result.now c.requires
    c.node-node.ensures)

pub go_on-requires-clause-there : goal.go_on-requires-clause-there
go_on-requires-clause-there c =
    splits_one c.args.problem.now c.loop-place.walk.region c.node-node.result.now
    c.loop-place.invariant.size (names_at c.args.problem.now c.args.tree.now c.loop-place.place
    c.node-node.result.now c.requires c.node-node.ensures)

pub returns-then-not-branch-clause-first : goal.returns-then-not-branch-clause-first
returns-then-not-branch-clause-first c =
    let kept = to_z w128 (of_z w128 c.args.best) in
    let node = c.node-node.result.now in
    let after = c.go_on.new.walk.region ∷ c.go_on.new.walk.waiting in
    c.first.ensures
    ∙ judged_last c.args.problem.now kept c.args.tree.now c.note.new.self (c.loop-place.place + 1)
    (judged_more c.args.problem.now kept c.args.tree.now c.loop-place.firsts c.loop-place.place
    c.loop-place.walk.region c.loop-place.walk.waiting node c.node-node.ensures
    c.loop-place.invariant.judged
    c.note.new.self []
    (ap (λ (region : List LineRange). splits_outside region node) (sym c.region.ensures.ranges)
    ∙ sym c.splits_outside.ensures ∙ c.if-splits_outside.false)
    (c.in_ok-note.ensures
    ∙ ap (λ (problem : ProblemParts). noted problem kept c.loop-place.firsts c.loop-place.place
    (record { node = node; region = c.region-in-loop-place.result.now.ranges }))
    (c.region-in-loop-place.ensures.problem ∙ c.loop-place.invariant.problem)
    ∙ ap (λ (region : List LineRange). noted c.args.problem.now kept
    c.loop-place.firsts c.loop-place.place (record { node = node; region = region }))
    c.region-in-loop-place.ensures.ranges)
    (ap (λ more. if more then after else []) (sym c.if-not-branch.true)
    ∙ c.in_ok-go_on.ensures.waiting))
    ∙ ap (λ best. slice_get (placed_faults c.args.problem.now best
    (all_placed c.args.problem.now c.args.tree.now)) 0) (to_z-of_z w128 c.args.best c.ranges.best)

pub loop-place-preserved : goal.loop-place-preserved
loop-place-preserved c =
    let kept = to_z w128 (of_z w128 c.args.best) in
    let node = c.node-node.result.now in
    let after = c.go_on.new.walk.region ∷ c.go_on.new.walk.waiting in
    record {
      judged = judged_more c.args.problem.now kept c.args.tree.now c.loop-place.firsts
          c.loop-place.place
          c.loop-place.walk.region c.loop-place.walk.waiting node c.node-node.ensures
          c.loop-place.invariant.judged c.note.new.self after
          (ap (λ (region : List LineRange). splits_outside region node) (sym c.region.ensures.ranges)
          ∙ sym c.splits_outside.ensures ∙ c.if-splits_outside.false)
          (c.in_ok-note.ensures
          ∙ ap (λ (problem : ProblemParts). noted problem kept c.loop-place.firsts c.loop-place.place
          (record { node = node; region = c.region-in-loop-place.result.now.ranges }))
          (c.region-in-loop-place.ensures.problem ∙ c.loop-place.invariant.problem)
          ∙ ap (λ (region : List LineRange). noted c.args.problem.now kept
          c.loop-place.firsts c.loop-place.place (record { node = node; region = region }))
          c.region-in-loop-place.ensures.ranges)
          (ap (λ more. if more then after else []) (sym c.if-not-branch.false)
          ∙ c.in_ok-go_on.ensures.waiting);
      problem = c.in_ok-go_on.ensures.problem ∙ c.loop-place.invariant.problem;
      size = c.in_ok-go_on.ensures.size ∙ c.loop-place.invariant.size;
    }

pub returns-clause-first : goal.returns-clause-first
returns-clause-first c = grind (arith, judged_all, IsJudged, to_z-of_z)
