use Rattle.plan_num.proofs.Common.{◌∙◌, ◌+◌, nat_lt, if◌then◌else◌, Some, ap, sym, refl, arith}
use Rattle.line_concepts.specs.declared.fault.TreeFault.TheVariants as fault
use Rattle.line_concepts.proofs.Shapes.{last_turn, leaf_turn, past_turns, split_turn}
use Rattle.line_concepts.proofs.check_shape.shape_fault.Goals.{then-is_split}
use Rattle.line_concepts.proofs.check_shape.shape_fault.Goals.{else-is_split+else-waiting-eq0}
use Rattle.line_concepts.proofs.check_shape.shape_fault.Goals as goal

pub loop-place-init : goal.loop-place-init
loop-place-init c = record { behind = refl; few = omega arith }

pub overflow_add-waiting : goal.overflow_add-waiting
overflow_add-waiting c = grind arith

pub returns-then-waiting-eq0 : goal.returns-then-waiting-eq0
returns-then-waiting-eq0 c = grind (arith, nat_lt, last_turn)

pub loop-place-preserved : goal.loop-place-preserved
loop-place-preserved c =
    let nodes = c.args.tree.now in
    let place = c.loop-place.place in
    let waiting = c.loop-place.waiting in
    let so_far = c.loop-place.invariant.behind in
    let few = c.loop-place.invariant.few in
    elim c.if-is_split.branch [
      | then-is_split w ↦ record {
        behind = split_turn nodes place waiting c.node.result.now c.node.ensures so_far
            c.if-is_split.waiting (sym c.is_split.ensures ∙ w.if-is_split.true) w.waiting-is;
        few = omega (arith, few, w.waiting-is);
      }
      | else-is_split+else-waiting-eq0 w ↦ record {
        behind = leaf_turn nodes place waiting c.node.result.now c.node.ensures so_far
            c.if-is_split.waiting (sym c.is_split.ensures ∙ w.if-is_split.false)
            w.if-waiting-eq0.false
            w.waiting-is;
        few = omega (arith, few, w.waiting-is);
      }
    ]

pub returns : goal.returns
returns c =
    ap (λ count. Some (fault.Shape count)) c.len-2.ensures
    ∙ sym (past_turns c.args.tree.now c.loop-place.place c.loop-place.waiting
    c.loop-place.invariant.behind (omega (arith, c.loop-place-test.false, c.len-place-end.ensures)))
