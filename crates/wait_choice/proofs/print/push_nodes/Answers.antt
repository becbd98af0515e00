use Rattle.std.proofs.Common.{◌∙◌, ap, arith}
use Rattle.waiting_decisions.specs.declared.node.WaitNode.TheVariants as node
use Rattle.wait_choice.specs.PrintedRows.{RowFits}
use Rattle.wait_choice.specs.WaitTexts.{node_row}
use Rattle.wait_choice.proofs.ListItems.{behind_pushed, fits_pushed, got}
use Rattle.wait_choice.proofs.print.push_nodes.Goals as goal

pub loop-index-preserved : goal.loop-index-preserved
loop-index-preserved c =
    let tree = c.args.tree.now in
    let i = c.loop-index.index in
    record {
      told = behind_pushed (node_row c.args.problem.now.changes) tree i node.Leaf c.args.rows.now.items
          c.loop-index.rows.items c.push.new.self.items c.node_row.result
          (omega (arith, c.loop-index-test.true, c.len-index-end.ensures)) c.in_ok-push.ensures.items
          c.loop-index.invariant.told
          (c.node_row.ensures.row ∙ ap (node_row c.args.problem.now.changes)
          (got tree i node.Leaf c.node.result.now c.node.ensures));
      fit = fits_pushed RowFits c.loop-index.rows.items c.push.new.self.items c.node_row.result
          c.in_ok-push.ensures.items c.loop-index.invariant.fit c.node_row.ensures.fits;
    }
