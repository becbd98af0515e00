use Rattle.wait_choice.specs.declared.row.WaitRow.TheVariants as row
use Rattle.wait_choice.specs.Judged.{keeps}
use Rattle.wait_choice.proofs.ListItems.{one_pushed}
use Rattle.wait_choice.proofs.judge.kept_in.Goals as goal

pub loop-choice-preserved : goal.loop-choice-preserved
loop-choice-preserved c =
    one_pushed keeps c.args.choices.now c.loop-choice.choice-index
    (row.Cost 0) c.loop-choice.kept.items c.push.new.self.items c.keeps.result
    c.loop-choice-test.true c.in_ok-push.ensures.items c.loop-choice.invariant c.keeps.ensures
