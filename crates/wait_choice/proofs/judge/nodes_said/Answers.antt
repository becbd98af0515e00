use Rattle.std.proofs.Common.{◌∙◌}
use Rattle.wait_choice.specs.declared.row.WaitRow.TheVariants as row
use Rattle.wait_choice.specs.Judged.{node_said}
use Rattle.wait_choice.proofs.ListItems.{one_pushed}
use Rattle.wait_choice.proofs.judge.nodes_said.Goals as goal

pub loop-row-preserved : goal.loop-row-preserved
loop-row-preserved c =
    let changes = c.args.problem.now.changes in
    one_pushed (node_said changes) c.args.rows.now c.loop-row.row-index (row.Cost 0)
    c.loop-row.nodes.items c.push.new.self.items c.node_said.result c.loop-row-test.true
    c.in_ok-push.ensures.items c.loop-row.invariant
    (c.node_said.ensures changes (c.deref.ensures.value ∙ c.in_ok-ids.ensures.ids))
