use Rattle.plan_num.proofs.Common.{arith, ◌≡◌, ◌∙◌, true, length, refl, ap, sym, subst}
use Rattle.waiting_decisions.specs.Listings.{cut_off, found_by}
use Rattle.waiting_decisions.specs.Searches.{Between, IsCheap, Leaves, Splits, TakesEntry, choice_of, entry_of}
use Rattle.waiting_decisions.proofs.Turns.{next_free, outcome_by, takes_leaf, takes_split}
use Rattle.waiting_decisions.proofs.search.Search.take_entry.Goals as goal

pub split-requires : goal.split-requires
split-requires c =
    next_free c.args.penalty c.args.self.now c.in-Split.change
    (sym (ap (entry_of (length c.args.self.now.path.problem.changes)) c.in-Split.is) ∙ c.in_ok-next_entry.ensures.next)

pub returns-in-CutOff-clause-takes : goal.returns-in-CutOff-clause-takes
returns-in-CutOff-clause-takes c =
    outcome_by (Leaves c.args.self.now c.leave.new.self)
    (TakesEntry c.args.penalty c.args.self.now c.leave.new.self) c.leave.result c.leave.ensures
    (λ more leaves. takes_leaf c.args.penalty c.args.self.now cut_off
    (sym (ap (entry_of (length c.args.self.now.path.problem.changes)) c.in-CutOff.is)
    ∙ c.in_ok-next_entry.ensures.next) refl
    c.args.self.now c.leave.new.self more refl refl refl leaves)

pub returns-in-Found-clause-takes : goal.returns-in-Found-clause-takes
returns-in-Found-clause-takes c =
    let choice = choice_of (length c.args.self.now.path.problem.changes) c.in-Found.best in grind
    (arith, outcome_by, takes_leaf)

pub returns-in-Split-clause-takes : goal.returns-in-Split-clause-takes
returns-in-Split-clause-takes c =
    outcome_by (λ more. (more ≡ true) × Splits c.args.self.now c.split.new.self c.in-Split.change)
    (TakesEntry c.args.penalty c.args.self.now c.split.new.self) c.split.result c.split.ensures
    (λ more splits. takes_split c.args.penalty c.args.self.now c.in-Split.change
    (sym (ap (entry_of (length c.args.self.now.path.problem.changes)) c.in-Split.is) ∙ c.in_ok-next_entry.ensures.next)
    c.split.new.self more splits.0 splits.1)

pub returns-in-CutOff-clause-cheap : goal.returns-in-CutOff-clause-cheap
returns-in-CutOff-clause-cheap c =
    outcome_by (Leaves c.args.self.now c.leave.new.self)
    (λ more. IsCheap c.args.self.now.best → IsCheap c.leave.new.self.best) c.leave.result c.leave.ensures
    (λ more leaves cheap. subst IsCheap (sym leaves.best) cheap)

pub returns-in-Found-clause-cheap : goal.returns-in-Found-clause-cheap
returns-in-Found-clause-cheap c =
    outcome_by (Leaves c.hold.new.self c.leave-in-Found.new.self)
    (λ more. IsCheap c.args.self.now.best → IsCheap c.leave-in-Found.new.self.best) c.leave-in-Found.result
    c.leave-in-Found.ensures
    (λ more leaves cheap. subst IsCheap (sym (leaves.best ∙ ap (λ (at : Between). at.best) c.hold.ensures))
    (subst (λ next. IsCheap (found_by (entry_of (length c.args.self.now.path.problem.changes) next))) c.in-Found.is
    c.in_ok-next_entry.ensures.cheap))

pub returns-in-Split-clause-cheap : goal.returns-in-Split-clause-cheap
returns-in-Split-clause-cheap c =
    outcome_by (λ more. (more ≡ true) × Splits c.args.self.now c.split.new.self c.in-Split.change)
    (λ more. IsCheap c.args.self.now.best → IsCheap c.split.new.self.best) c.split.result c.split.ensures
    (λ more splits cheap. subst IsCheap (sym (ap (λ (at : Between). at.best) splits.1)) cheap)
