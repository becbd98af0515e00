-- The parts that wait behind the decisions that are left are those that waited at first.
use Rattle.plan_num.proofs.Common.{◌≡◌, length}
use Rattle.waiting_decisions.specs.Paths.{waiting_in}
use Rattle.waiting_decisions.proofs.path.Path.go_on.Given as goal

abbrev pub invariant-loop-last : goal.invariant-loop-last
invariant-loop-last l = record {
  same : l.self.problem ≡ l.fn.self.problem;
  waits : waiting_in l.self ≡ waiting_in l.fn.self;
}

abbrev pub decreases-loop-last : goal.decreases-loop-last
decreases-loop-last l = length l.self.decided
