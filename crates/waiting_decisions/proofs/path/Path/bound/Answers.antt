use Rattle.plan_num.proofs.Common.{arith, ◌≡◌, ◌∙◌, ◌*◌, ◌+ℤ◌, pos, length, to_z, of_z, ap, sym}
use Rattle.plan_num.proofs.Common.{subst}
use Rattle.std.proofs.lemmas.Int.{to_z-of_z}
use mir.Syntax.{w128}
use Rattle.waiting_decisions.specs.Paths.{dropped_in, region_in}
use Rattle.waiting_decisions.specs.Regions.{bound_of}
use Rattle.waiting_decisions.proofs.Bounds.{bound_holds}
use Rattle.waiting_decisions.proofs.PathFacts.{bound_is, bound_least, bound_most, few_dropped}
use Rattle.waiting_decisions.proofs.path.Path.bound.Goals as goal

told : (c : goal.After-with_penalties)
    → c.delay.result +ℤ pos (c.args.penalty * length (dropped_in c.self.inside.trial.decided))
    ≡ to_z w128 (of_z w128 c.with_penalties.result)
told c =
    (λ i. sym (to_z-of_z w128 c.delay.result
    (record { sfits = c.delay.type_inv })) i +ℤ pos (c.args.penalty * length (sym c.self.invariant.drops i)))
    ∙ ap (λ n. to_z w128 (of_z w128 c.delay.result) +ℤ pos (c.args.penalty * n))
    (sym c.self.inside.dropped.ok.0 ∙ sym c.len.ensures)
    ∙ sym c.with_penalties.ensures
    ∙ sym (to_z-of_z w128 c.with_penalties.result (record { sfits = c.with_penalties.type_inv }))

pub returns-clause-value : goal.returns-clause-value
returns-clause-value c =
    sym (told c) ∙ subst
    (λ path. c.delay.result +ℤ pos (c.args.penalty * length (dropped_in c.self.inside.trial.decided))
    ≡ bound_of path.problem c.args.penalty (region_in path)) c.self.view_is
    (bound_is c.self.inside.trial c.self.invariant.once c.args.penalty c.delay.result c.delay.ensures.value)

pub returns-clause-least : goal.returns-clause-least
returns-clause-least c = bound_least c.delay.result _ c.args.penalty _ (told c) c.delay.ensures.least

pub returns-clause-most : goal.returns-clause-most
returns-clause-most c small = grind (arith, bound_most, told, few_dropped)

pub returns-clause-forward : goal.returns-clause-forward
returns-clause-forward c = grind arith

pub returns-clause-holds : goal.returns-clause-holds
returns-clause-holds c kept times lies feasible = grind (
  arith,
  returns-clause-value,
  bound_holds,
  returns-clause-forward,
)
