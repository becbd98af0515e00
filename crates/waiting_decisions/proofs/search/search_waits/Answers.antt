use Rattle.plan_num.proofs.Common.{◌≡◌, None, Some, length, subst, arith}
use Rattle.waiting_decisions.specs.Listings.{listing}
use Rattle.waiting_decisions.specs.Searches.{TakesEntry}
use Rattle.waiting_decisions.proofs.SearchTells.{tells}
use Rattle.waiting_decisions.proofs.Turns.{all_listed, few_listed, inside, last_one, on_err, on_ok, one_more}
use Rattle.waiting_decisions.proofs.Turns.{spent_found, starts, whole_within}
use Rattle.waiting_decisions.proofs.search.search_waits.Goals as goal

pub loop-entry-init : goal.loop-entry-init
loop-entry-init g c = grind (arith, starts)

pub returns-in_err-take_entry-clause-err : goal.returns-in_err-take_entry-clause-err
returns-in_err-take_entry-clause-err g c = grind (arith, inside, few_listed, on_err)

pub returns-then-not-branch : goal.returns-then-not-branch
returns-then-not-branch g c =
    let problem = c.args.problem.now in
    let takes = subst (TakesEntry c.args.penalty c.loop-entry.search c.take_entry.new.self) c.if-not-branch.true
    c.in_ok-take_entry.ensures.takes in
    let last = last_one problem c.args.penalty c.loop-entry._entry c.loop-entry.search c.loop-entry.invariant.behind
    c.take_entry.new.self takes in
    let all = all_listed c.args.budget (length (listing problem c.args.penalty)) c.loop-entry._entry
    c.loop-entry-test.true last.2 in
    let told = tells problem c.args.penalty c.args.budget c.new.ensures.forward (Some c.take_entry.new.self.nodes)
    c.take_entry.new.self.best (c.in_ok-take_entry.ensures.cheap c.loop-entry.invariant.cheap)
    (whole_within c.args.budget (listing problem c.args.penalty) c.take_entry.new.self.nodes c.take_entry.new.self.best
    (omega (arith, last.2, c.loop-entry-test.true)) last.0 last.1)
    c.whole.result c.whole.ensures in
    record {
      found = told.found;
      right = told.right;
      listed = told.listed;
      finds = told.finds;
      whole = told.whole;
      steps = on_ok _ c.whole.result (omega (arith, c.tick.ensures, c.loop-entry.invariant.steps, all));
      err = on_err _ c.whole.result (
        omega (arith, c.tick.ensures, c.loop-entry.invariant.steps),
        omega (arith, c.tick.ensures, c.loop-entry.invariant.steps, all),
      );
    }

pub loop-entry-preserved : goal.loop-entry-preserved
loop-entry-preserved g c =
    let problem = c.args.problem.now in
    let takes = subst (TakesEntry c.args.penalty c.loop-entry.search c.take_entry.new.self) c.if-not-branch.false
    c.in_ok-take_entry.ensures.takes in
    let more = one_more problem c.args.penalty c.loop-entry._entry c.loop-entry.search c.loop-entry.invariant.behind
    c.take_entry.new.self takes in
    record {
      behind = more.0;
      cheap = c.in_ok-take_entry.ensures.cheap c.loop-entry.invariant.cheap;
      within = more.1;
      steps = omega (arith, c.tick.ensures, c.loop-entry.invariant.steps);
    }

pub returns : goal.returns
returns g c =
    let problem = c.args.problem.now in
    let same : c.loop-entry._entry ≡ c.args.budget =
    omega (arith, c.loop-entry.auto._entry-end, c.loop-entry-test.false) in
    let here = inside problem c.args.penalty c.loop-entry._entry c.loop-entry.search c.loop-entry.invariant.behind in
    let told = tells problem c.args.penalty c.args.budget c.new.ensures.forward None c.loop-entry.search.best
    c.loop-entry.invariant.cheap
    (spent_found problem c.args.penalty c.args.budget c.loop-entry._entry c.loop-entry.search
    c.loop-entry.invariant.behind same)
    c.spent.result c.spent.ensures in
    record {
      found = told.found;
      right = told.right;
      listed = told.listed;
      finds = told.finds;
      whole = told.whole;
      steps = on_ok _ c.spent.result (omega (arith, c.loop-entry.invariant.steps, same, here));
      err = on_err _ c.spent.result (
        omega (arith, c.loop-entry.invariant.steps),
        omega (arith, c.loop-entry.invariant.steps, same, here),
      );
    }
