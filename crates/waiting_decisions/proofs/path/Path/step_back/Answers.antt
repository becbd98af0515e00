use Rattle.plan_num.proofs.Common.{both_ways, not-false, not-true}
use Rattle.waiting_decisions.proofs.PathFacts.{popped, still_path, then_free}
use Rattle.waiting_decisions.proofs.path.Path.step_back.Goals as goal

pub invariant_of-self-then-not-last : goal.invariant_of-self-then-not-last
invariant_of-self-then-not-last c =
    still_path c.self.inside.trial c.take_back.new.self c.in-Some.last c.self.inside.dropped.items c.pop.new.self.items
    c.self.invariant c.take_back.result c.take_back.ensures.last c.in-Some.is c.take_back.ensures.rest
    (λ kept. absurd (both_ways c.in-Some.last.kept (not-true c.in-Some.last.kept c.if-not-last.true) kept))
    (λ kept. popped c.self.inside.dropped.items c.pop.new.self.items _ c.self.inside.dropped.ok.0 c.pop.ensures.rest)

pub invariant_of-self-else-not-last : goal.invariant_of-self-else-not-last
invariant_of-self-else-not-last c =
    still_path c.self.inside.trial c.take_back.new.self c.in-Some.last c.self.inside.dropped.items
    c.self.inside.dropped.items
    c.self.invariant c.take_back.result c.take_back.ensures.last c.in-Some.is c.take_back.ensures.rest
    (λ kept i. c.self.inside.dropped.items)
    (λ kept. absurd (both_ways c.in-Some.last.kept kept (not-false c.in-Some.last.kept c.if-not-last.false)))

pub returns-then-not-last-clause-free : goal.returns-then-not-last-clause-free
returns-then-not-last-clause-free c =
    then_free c.self.inside.trial c.take_back.new.self c.in-Some.last c.self.inside.dropped.items c.pop.new.self.items
    c.self.invariant c.take_back.result c.take_back.ensures.last c.in-Some.is c.take_back.ensures.rest
    (λ kept. absurd (both_ways c.in-Some.last.kept (not-true c.in-Some.last.kept c.if-not-last.true) kept))
    (λ kept. popped c.self.inside.dropped.items c.pop.new.self.items _ c.self.inside.dropped.ok.0 c.pop.ensures.rest)

pub returns-else-not-last-clause-free : goal.returns-else-not-last-clause-free
returns-else-not-last-clause-free c =
    then_free c.self.inside.trial c.take_back.new.self c.in-Some.last c.self.inside.dropped.items
    c.self.inside.dropped.items
    c.self.invariant c.take_back.result c.take_back.ensures.last c.in-Some.is c.take_back.ensures.rest
    (λ kept i. c.self.inside.dropped.items)
    (λ kept. absurd (both_ways c.in-Some.last.kept kept (not-false c.in-Some.last.kept c.if-not-last.false)))
