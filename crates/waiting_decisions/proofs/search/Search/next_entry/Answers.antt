use Rattle.plan_num.proofs.Common.{◌≡◌, ◌∙◌, None, Some, length, sym, subst}
use Rattle.std.proofs.lemmas.Int.{to_z-of_z}
use mir.Syntax.{w128}
use Rattle.propagation.proofs.Common.{IsForward}
use Rattle.waiting_decisions.specs.Paths.{region_in}
use Rattle.waiting_decisions.specs.Regions.{bound_of, first_broken}
use Rattle.waiting_decisions.specs.RightListings.{EntryHolds}
use Rattle.waiting_decisions.specs.Searches.{Between, entry_of}
use Rattle.waiting_decisions.proofs.Holding.{found_holds, split_holds}
use Rattle.waiting_decisions.proofs.Turns.{outcome_by}
use Rattle.waiting_decisions.proofs.search.Search.next_entry.Goals as goal

pub returns-in-Some-clause-holds : goal.returns-in-Some-clause-holds
returns-in-Some-clause-holds c =
    let at = c.args.self.now in
    split_holds at.path.problem c.args.penalty (region_in at.path) at.best c.in-Some.change
    (subst (λ (at : Between). first_broken at.path.problem (region_in at.path) ≡ Some c.in-Some.change) c.self.view_is
    (sym c.first_broken.ensures ∙ c.in-Some.is))

pub returns-in-None-clause-holds : goal.returns-in-None-clause-holds
returns-in-None-clause-holds c =
    let at = c.args.self.now in
    let forward = subst (λ (at : Between). IsForward at.path.problem) c.self.view_is c.bound-bound.ensures.forward in
    let none = subst (λ (at : Between). first_broken at.path.problem (region_in at.path) ≡ None) c.self.view_is
    (sym c.first_broken.ensures ∙ c.in-None.is) in
    let value = subst (λ (at : Between). c.bound-bound.result
    ≡ bound_of at.path.problem c.args.penalty (region_in at.path))
    c.self.view_is c.bound-bound.ensures.value in
    outcome_by _ (λ next. EntryHolds at.path.problem c.args.penalty (region_in at.path) at.best
    (entry_of (length at.path.problem.changes) next)) c.found.result c.found.ensures.next
    (λ next is. found_holds c.args.penalty at forward none _ _ is
    (to_z-of_z w128 c.bound-bound.result (record { sfits = c.bound-bound.type_inv }) ∙ value))
