use Rattle.plan_num.proofs.Common.{subst, ◌∙◌, arith, All, take_all, All-nil}
use Rattle.tables.proofs.Common.{tree_columns, line_text}
use Rattle.branch_certificate.specs.TreeTexts.{CanBeWritten, IsSmallSplit, node_rows, tree_header}
use Rattle.line_concepts.specs.Nodes.{NamesWhatIs}
use Rattle.branch_certificate.proofs.WriteLines.{all_lines, items_more, lines_more, text_back}
use Rattle.line_cost_model.proofs.Common.{holds_at}
use Rattle.branch_certificate.proofs.write.write_tree.Goals as goal

pub loop-i-init : goal.loop-i-init
loop-i-init c = record {
  lines = c.in_ok-bytes.ensures;
  written = All-nil CanBeWritten;
}

pub push_node-requires-clause-names : goal.push_node-requires-clause-names
push_node-requires-clause-names c =
    holds_at (NamesWhatIs c.args.problem.now) c.args.tree.now c.loop-i.i c.node.result.now c.requires.names
    c.node.ensures

pub push_node-requires-clause-small : goal.push_node-requires-clause-small
push_node-requires-clause-small c =
    holds_at IsSmallSplit c.args.tree.now c.loop-i.i c.node.result.now c.requires.small c.node.ensures

pub loop-i-preserved : goal.loop-i-preserved
loop-i-preserved c = record {
  lines = lines_more tree_header (line_text tree_columns) (node_rows c.args.problem.now) c.args.tree.now
      c.loop-i.i c.node.result.now c.loop-i.bytes.items c.push_node.new.bytes.items
      c.in_ok-push_node.ensures.lines c.loop-i.invariant.lines c.node.ensures;
  written = items_more CanBeWritten c.args.tree.now c.loop-i.i c.node.result.now c.loop-i.invariant.written
      c.in_ok-push_node.ensures.written c.node.ensures;
}

pub returns-clause-text : goal.returns-clause-text
returns-clause-text c =
    c.from_vec.ensures ∙ c.loop-i.invariant.lines
    ∙ all_lines c.args.problem.now c.args.tree.now c.loop-i.i (omega arith)

pub returns-clause-back : goal.returns-clause-back
returns-clause-back c =
    text_back c.args.problem.now c.edge_count.ensures.sound c.args.tree.now c.requires.names
    (subst (λ some. All CanBeWritten some) (take_all c.loop-i.i c.args.tree.now (omega arith))
    c.loop-i.invariant.written) c.from_vec.result
    (c.from_vec.ensures ∙ c.loop-i.invariant.lines
    ∙ all_lines c.args.problem.now c.args.tree.now c.loop-i.i (omega arith))
