use Rattle.plan_num.proofs.Common.{◌≡◌, ◌∙◌, Bool, arith, subst, sym}
use Rattle.line_cost_model.proofs.Common.{ProblemParts}
use Rattle.line_concepts.specs.declared.search.Search.{Search}
use Rattle.line_concepts.specs.Searches.{ArePriced, IsResult, IsSearched, IsVisited, TakesEntry}
use Rattle.line_concepts.proofs.SearchTurns.{last_taken, next_taken, on_error, one_within}
use Rattle.line_concepts.proofs.SearchTurns.{search_spent}
use Rattle.line_concepts.proofs.search.listed_concept.Goals as goal

-- an entry that is taken over one problem is taken over an equal one
of_problem : {own problem : ProblemParts} {before after : Search} {more : Bool} → own ≡ problem
    → TakesEntry own before after more → TakesEntry problem before after more
of_problem {before = before} {after = after} {more = more} same taken =
    subst (λ (problem : ProblemParts). TakesEntry problem before after more) same taken

pub take_entry-requires-clause-visited : goal.take_entry-requires-clause-visited
take_entry-requires-clause-visited g c =
    subst (λ (problem : ProblemParts). IsVisited problem c.loop-entry.search.walk.region)
    (sym c.loop-entry.invariant.problem) c.loop-entry.invariant.searched.visited.0

pub take_entry-requires-clause-priced : goal.take_entry-requires-clause-priced
take_entry-requires-clause-priced g c =
    subst (λ (problem : ProblemParts). ArePriced problem c.loop-entry.search.best)
    (sym c.loop-entry.invariant.problem) c.loop-entry.invariant.searched.priced

pub returns-in_err-take_entry-clause-err : goal.returns-in_err-take_entry-clause-err
returns-in_err-take_entry-clause-err g c =
    let search = c.loop-entry.search in
    let within = one_within c.args.problem.now search.walk.region search.walk.waiting search.tree
    search.best c.loop-entry.entry c.args.budget c.loop-entry.invariant.searched
    c.loop-entry-test.true in grind (arith, on_error)

pub returns-then-not-branch-clause-found : goal.returns-then-not-branch-clause-found
returns-then-not-branch-clause-found g c =
    subst (IsResult c.args.problem.now c.args.budget) (sym c.whole.ensures)
    (last_taken c.args.problem.now c.loop-entry.search c.take_entry.new.self c.in_ok-take_entry.field-0
    c.loop-entry.entry c.args.budget c.loop-entry.invariant.searched
    (of_problem c.loop-entry.invariant.problem c.in_ok-take_entry.ensures)
    c.if-not-branch.true c.loop-entry-test.true)

pub returns-then-not-branch-clause-steps : goal.returns-then-not-branch-clause-steps
returns-then-not-branch-clause-steps g c =
    let last = last_taken c.args.problem.now c.loop-entry.search c.take_entry.new.self
    c.in_ok-take_entry.field-0 c.loop-entry.entry c.args.budget c.loop-entry.invariant.searched
    (of_problem c.loop-entry.invariant.problem c.in_ok-take_entry.ensures) c.if-not-branch.true
    c.loop-entry-test.true in grind arith

pub loop-entry-preserved : goal.loop-entry-preserved
loop-entry-preserved g c = record {
  searched = next_taken c.args.problem.now c.loop-entry.search c.take_entry.new.self
      c.in_ok-take_entry.field-0 c.loop-entry.entry c.loop-entry.invariant.searched
      (of_problem c.loop-entry.invariant.problem c.in_ok-take_entry.ensures) c.if-not-branch.false;
  problem = c.in_ok-take_entry.ensures.same_problem ∙ c.loop-entry.invariant.problem;
  steps = omega (arith, c.tick.ensures, c.loop-entry.invariant.steps);
}

pub returns-clause-found : goal.returns-clause-found
returns-clause-found g c =
    let search = c.loop-entry.search in
    let spent : c.loop-entry.entry ≡ c.args.budget =
    omega (arith, c.loop-entry-test.false, c.loop-entry.auto.entry-end) in
    subst (IsResult c.args.problem.now c.args.budget) (sym c.spent.ensures)
    (search_spent c.args.problem.now search.walk.region search.walk.waiting search.tree search.best
    c.args.budget (subst (IsSearched c.args.problem.now search) spent c.loop-entry.invariant.searched))
