use Rattle.std.proofs.Common.{◌∙◌, ap, sym}
use Rattle.waiting_decisions.specs.declared.node.WaitNode.TheVariants as node
use Rattle.wait_choice.specs.Judged.{node_said}
use Rattle.wait_choice.proofs.ListItems.{index_alike}
use Rattle.wait_choice.proofs.judge.node_said.Goals as goal

pub returns-in-Split : goal.returns-in-Split
returns-in-Split c changes is =
    ap (λ k. node.Split k) (c.index_of.ensures ∙ index_alike c.args.ids.now changes c.in-Split.id is)
    ∙ ap (node_said changes) (sym c.in-Split.is)
