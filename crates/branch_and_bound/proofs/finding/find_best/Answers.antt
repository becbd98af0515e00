use Rattle.plan_num.proofs.Common.{◌≡◌, subst, arith}
use Rattle.branch_and_bound.specs.Searches.{IsSearched}
use Rattle.branch_and_bound.proofs.Turns.{at_end, begins, ended, found_right, next_taken}
use Rattle.branch_and_bound.proofs.Turns.{region_fits}
use Rattle.branch_and_bound.proofs.finding.find_best.Goals as goal

pub loop-entry-init : goal.loop-entry-init
loop-entry-init g c =
    let it = c.args.problem.now in
    begins (g.B.Branching.problem it) (g.B.Branching.LiesIn it) (g.B.Branching.Shows it)
    (g.B.Branching.Fits it) (g.met.B.Branching.laws it) c.in_ok-search.search c.in_ok-root.field-0
    c.in_ok-root.ensures c.in_ok-search.ensures

pub take_entry-requires : goal.take_entry-requires
take_entry-requires g c =
    let it = c.args.problem.now in
    region_fits (g.B.Branching.problem it) (g.B.Branching.LiesIn it) (g.B.Branching.Shows it)
    (g.B.Branching.Fits it) (g.met.B.Branching.laws it) c.loop-entry.search c.next.new.self
    c.in-Some.region c.loop-entry.entry c.loop-entry.invariant c.in-Some.ensures

pub loop-entry-preserved : goal.loop-entry-preserved
loop-entry-preserved g c =
    let it = c.args.problem.now in
    next_taken (g.B.Branching.problem it) (g.B.Branching.LiesIn it) (g.B.Branching.Shows it)
    (g.B.Branching.Fits it) (g.met.B.Branching.laws it) c.loop-entry.search c.next.new.self
    c.take_entry.new.self c.in-Some.region c.loop-entry.entry c.loop-entry.invariant
    c.in-Some.ensures c.in_ok-take_entry-in-Some.ensures

pub returns-in-None-clause-found : goal.returns-in-None-clause-found
returns-in-None-clause-found g c =
    let it = c.args.problem.now in
    ended (g.B.Branching.problem it) (g.B.Branching.LiesIn it) (g.B.Branching.Shows it)
    (g.B.Branching.Fits it) (g.met.B.Branching.laws it) c.loop-entry.search c.next.new.self
    c.whole.result c.loop-entry.entry c.args.budget c.loop-entry.invariant c.in-None.ensures
    (omega (arith, c.loop-entry-test.true)) c.whole.ensures

pub returns-in-None-clause-right : goal.returns-in-None-clause-right
returns-in-None-clause-right g c =
    let it = c.args.problem.now in
    found_right (g.B.Branching.problem it) (g.B.Branching.LiesIn it) (g.B.Branching.Shows it)
    (g.B.Branching.Fits it) (g.met.B.Branching.laws it) c.whole.result c.args.budget
    (returns-in-None-clause-found g c)

pub returns-clause-found : goal.returns-clause-found
returns-clause-found g c =
    let it = c.args.problem.now in
    let spent : c.loop-entry.entry ≡ c.args.budget =
    omega (arith, c.loop-entry-test.false, c.loop-entry.auto.entry-end) in
    at_end (g.B.Branching.problem it) (g.B.Branching.LiesIn it) (g.B.Branching.Shows it)
    (g.B.Branching.Fits it) (g.met.B.Branching.laws it) c.loop-entry.search c.end.result
    c.args.budget
    (subst (IsSearched (g.B.Branching.problem it) (g.B.Branching.Fits it) c.loop-entry.search) spent c.loop-entry.invariant) c.end.ensures.whole c.end.ensures.spent

pub returns-clause-right : goal.returns-clause-right
returns-clause-right g c =
    let it = c.args.problem.now in
    found_right (g.B.Branching.problem it) (g.B.Branching.LiesIn it) (g.B.Branching.Shows it)
    (g.B.Branching.Fits it) (g.met.B.Branching.laws it) c.end.result c.args.budget
    (returns-clause-found g c)
