use Rattle.plan_num.proofs.Common.{◌∙◌, ◌++◌, ◌∷◌, [], refl}
use Rattle.pesp.proofs.Waiting.{next_from, next_waits, none_waits, nothing_waits}
use Rattle.pesp.proofs.Waiting.{passed_more, saved_at}
use Rattle.pesp.proofs.children.next_child.Goals as goal

pub loop-branch-init : goal.loop-branch-init
loop-branch-init c = record { period = refl; events = refl; passed = []; all = refl; waiting = refl }

pub returns-in-Some-next_left : goal.returns-in-Some-next_left
returns-in-Some-next_left c =
    let so = c.loop-branch.invariant in
    next_from c.args.sets.now c.loop-branch.sets c.keep_time.new.sets so.passed c.in-Some.branch.event
    so.waiting so.period so.events so.all
    (next_waits c.loop-branch.sets c.restore.new.self c.save.new.self c.keep_time.new.sets
    c.sets.result.now c.in-Some.branch c.in-Some-next_left.time c.in-Some.ensures c.sets.ensures
    c.in-Some-next_left.ensures.next c.in_ok-save.ensures c.in_ok-keep_time.ensures)

pub loop-branch-preserved : goal.loop-branch-preserved
loop-branch-preserved c =
    let so = c.loop-branch.invariant in
    let restored = c.in-Some.ensures in
    record {
      period = restored.2 ∙ so.period;
      events = restored.3 ∙ so.events;
      passed = so.passed ++ saved_at c.restore.new.self.sets c.in-Some.branch ∷ [];
      all = passed_more c.args.sets.now.saved so.passed c.loop-branch.sets.saved
          (saved_at c.restore.new.self.sets c.in-Some.branch) c.restore.new.self.saved so.all restored.0;
      waiting = so.waiting ∙ none_waits c.loop-branch.sets c.restore.new.self c.sets.result.now
          c.in-Some.branch restored c.sets.ensures c.in_default-next_left.ensures.next;
    }

pub returns : goal.returns
returns c =
    c.loop-branch.invariant.waiting ∙ nothing_waits c.loop-branch.sets.saved c.in_default.ensures
