use Rattle.plan_num.proofs.Common.{◌∙◌, arith}
use Rattle.delay_trials.proofs.Turning.{all_done, all_tested, limits_same, others_tested, tests_more}
use Rattle.delay_trials.proofs.open_changes.OpenChanges.test_moved.Goals as goal

pub returns-then-not-has_end-clause-tested : goal.returns-then-not-has_end-clause-tested
returns-then-not-has_end-clause-tested c = let day = c.args.self.now in
    all_tested day.times c.args.moved.event c.args.moved.before c.requires.there day.changes day.ends
    c.has_end.ensures.ends (c.has_end.ensures.none c.if-not-has_end.true) day.open_yet c.args.broken.now
    c.requires.tested

pub returns-then-not-has_end-clause-limits : goal.returns-then-not-has_end-clause-limits
returns-then-not-has_end-clause-limits c = let day = c.args.self.now in
    limits_same day.times c.args.moved.event c.args.moved.before c.requires.there day.changes day.ends
    c.has_end.ensures.ends (c.has_end.ensures.none c.if-not-has_end.true) c.args.shifted.now c.args.until.now.items
    c.requires.limits

pub returns-then-is_empty-clause-tested : goal.returns-then-is_empty-clause-tested
returns-then-is_empty-clause-tested c = let day = c.args.self.now in
    all_done day.changes day.times day.open_yet day.ends c.args.moved.event c.args.first c.test_few.result
    c.args.broken.now c.test_few.new.broken c.has_end.ensures.ends c.has_end.ensures.in_order c.requires.first
    c.test_few.ensures.on c.test_few.ensures.past
    (others_tested day.times c.args.moved.event c.args.moved.before c.requires.there day.changes day.open_yet
    c.args.broken.now c.requires.tested)
    c.test_few.ensures.tests

pub returns-clause-tested : goal.returns-clause-tested
returns-clause-tested c = let day = c.args.self.now in
    all_done day.changes day.times day.open_yet day.ends c.args.moved.event c.args.first c.test_few-2.result
    c.args.broken.now c.test_few-2.new.broken c.has_end.ensures.ends c.has_end.ensures.in_order c.requires.first
    (omega (arith, c.test_many-at.ensures.on, c.test_few-2.ensures.on)) c.test_few-2.ensures.past
    (others_tested day.times c.args.moved.event c.args.moved.before c.requires.there day.changes day.open_yet
    c.args.broken.now c.requires.tested)
    (tests_more day.changes day.times day.open_yet day.ends c.args.first c.test_many-at.result c.test_few-2.result
    c.args.broken.now c.test_many-at.new.broken c.test_few-2.new.broken c.test_many-at.ensures.tests
    c.test_few-2.ensures.tests)
