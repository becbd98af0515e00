use Rattle.plan_num.proofs.Common.{List, Ok, Result, ℕ}
use Rattle.propagation.proofs.PassIsLeast.{ends_there, least_told, told_least}
use Rattle.propagation.proofs.SoonTimes.{told_small}
use Rattle.propagation.proofs.propagation.Propagation.put_least_times.Goals as goal

pub push_again-requires-clause-ends : goal.push_again-requires-clause-ends
push_again-requires-clause-ends c =
    ends_there _ c.args.self.now _ c.deref-2.result.now c.deref.result.now c.self.invariant c.self.view_is
    c.deref-2.ensures.value c.deref.ensures.value c.args.kept.now

pub returns-clause-times : goal.returns-clause-times
returns-clause-times c =
    let found : Result (List ℕ) ℕ = Ok c.push_again.new.times.items in
    least_told _ c.args.self.now _ c.deref-2.result.now c.deref.result.now c.self.invariant c.self.view_is
    c.deref-2.ensures.value c.deref.ensures.value c.args.kept.now (λ times. times) found c.push_again.ensures

pub returns-clause-least : goal.returns-clause-least
returns-clause-least c =
    let found : Result (List ℕ) ℕ = Ok c.push_again.new.times.items in
    told_least _ c.args.self.now _ c.deref-2.result.now c.deref.result.now c.self.invariant c.self.view_is
    c.deref-2.ensures.value c.deref.ensures.value c.args.kept.now (λ times. times) found c.push_again.ensures

pub returns-clause-small : goal.returns-clause-small
returns-clause-small c =
    let found : Result (List ℕ) ℕ = Ok c.push_again.new.times.items in
    told_small _ _ c.deref-2.result.now c.deref.result.now c.self.invariant c.deref-2.ensures.value
    c.deref.ensures.value c.args.kept.now (λ times. times) found c.push_again.ensures
