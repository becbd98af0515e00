use Rattle.propagation.proofs.PassIsLeast.{ends_there, least_told, told_least}
use Rattle.propagation.proofs.SoonTimes.{told_small}
use Rattle.propagation.proofs.propagation.Propagation.least_times.Goals as goal

pub pushed_along-requires-clause-ends : goal.pushed_along-requires-clause-ends
pushed_along-requires-clause-ends c =
    ends_there _ c.args.self.now _ c.deref-2.result.now c.deref.result.now c.self.invariant c.self.view_is
    c.deref-2.ensures.value c.deref.ensures.value c.args.kept.now

pub returns-clause-times : goal.returns-clause-times
returns-clause-times c =
    least_told _ c.args.self.now _ c.deref-2.result.now c.deref.result.now c.self.invariant c.self.view_is
    c.deref-2.ensures.value c.deref.ensures.value c.args.kept.now
    (λ times. times.items) c.pushed_along.result c.pushed_along.ensures.times

pub returns-clause-least : goal.returns-clause-least
returns-clause-least c =
    told_least _ c.args.self.now _ c.deref-2.result.now c.deref.result.now c.self.invariant c.self.view_is
    c.deref-2.ensures.value c.deref.ensures.value c.args.kept.now
    (λ times. times.items) c.pushed_along.result c.pushed_along.ensures.times

pub returns-clause-small : goal.returns-clause-small
returns-clause-small c =
    told_small _ _ c.deref-2.result.now c.deref.result.now c.self.invariant c.deref-2.ensures.value
    c.deref.ensures.value c.args.kept.now (λ times. times.items) c.pushed_along.result c.pushed_along.ensures.times
