use Rattle.plan_num.proofs.Common.{◌≡◌, ◌≤◌, ◌*◌, ◌+◌, ◌∙◌, ◌++◌, ◌∷◌, [], ℕ, List, ap, sym, subst}
use Rattle.plan_num.proofs.Common.{arith, pos, true, Some, w128}
use Rattle.std.proofs.lemmas.Int.{to_z-of_z}
use Rattle.line_cost_model.specs.declared.multipliers.Multiplier.{Multiplier}
use Rattle.line_cost_model.specs.DualBounds.{are_within, multipliers_of}
use Rattle.line_cost_model.specs.Passes.{IsNextShort, IsPass}
use Rattle.line_cost_model.proofs.Duality.{bound_is_least}
use Rattle.line_cost_model.proofs.FewLines.{few_edges}
use Rattle.line_cost_model.proofs.PassSteps.{pass_first, pass_none, pass_some, pass_last, pass_to, is_amount, adds}
use Rattle.line_cost_model.proofs.summed.SummedRegion.renew_bound.Goals as goal
use Rattle.line_cost_model.proofs.summed.SummedRegion.renew_bound.Goals.{After-from-in-Some}

pub loop-edge-init : goal.loop-edge-init
loop-edge-init c = record {
  pass = subst (λ (multipliers : List Multiplier). IsPass c.args.self.now.problem
      c.args.self.now.ranges multipliers c.renew_costs.new.left.items
      c.least_millionths-value.result 0)
      (sym c.clear.ensures)
      (pass_first c.args.self.now.problem c.args.self.now.ranges c.renew_costs.new.left.items
      c.least_millionths-value.result c.in_ok-renew_costs.ensures
      c.least_millionths-value.ensures.cost c.least_millionths-value.ensures.few);
  within = omega arith;
}

pub overflow_add-from : goal.overflow_add-from
overflow_add-from c = grind (arith, few_edges)

pub loop-edge-preserved-then-amount-eq0 : goal.loop-edge-preserved-then-amount-eq0
loop-edge-preserved-then-amount-eq0 c =
    let next : IsNextShort c.args.self.now.problem c.args.self.now.ranges c.loop-edge.from (Some c.in-Some.edge) =
    subst (IsNextShort c.args.self.now.problem c.args.self.now.ranges c.loop-edge.from)
    c.in-Some.is c.next_short.ensures.next in
    let pass = pass_to c.args.self.now.problem c.args.self.now.ranges c.loop-edge.bound.multipliers
    c.loop-edge.bound.left.items c.loop-edge.value c.loop-edge.from c.in-Some.edge c.loop-edge.invariant.pass next in
    record {
      pass = pass_none c.args.self.now.problem c.args.self.now.ranges
          c.loop-edge.bound.multipliers c.loop-edge.bound.left.items c.loop-edge.value
          c.in-Some.edge
          c.next_multiplier-missing.result.1 pass
          (c.next_multiplier-missing.ensures.amount c.loop-edge.bound.multipliers
          (c.deref.ensures.value ∙ c.loop-edge.invariant.pass.left_is)) c.if-amount-eq0.true;
      within = omega (arith, next.1);
    }

pub push_amount-requires-clause-amount : goal.push_amount-requires-clause-amount
push_amount-requires-clause-amount c =
    let one = c.next_multiplier-missing in
    is_amount c.args.self.now.problem c.args.self.now.ranges c.loop-edge.bound.multipliers
    c.in-Some.edge one.result.0 one.result.1
    c.next_short.ensures.sound one.ensures.shortfall
    (one.ensures.amount c.loop-edge.bound.multipliers
    (c.deref.ensures.value ∙ c.loop-edge.invariant.pass.left_is)) c.if-amount-eq0.false

little : (c : After-from-in-Some) → c.from.result * c.from-in-Some.result ≤ 4294967296000000000000000000
little c =
    let one = c.next_multiplier-missing in
    subst (λ (amount : ℕ). amount * c.from-in-Some.result ≤ 4294967296000000000000000000) (sym c.from.ensures)
    (subst (λ (missing : ℕ). one.result.1 * missing ≤ 4294967296000000000000000000) (sym c.from-in-Some.ensures)
    (adds c.args.self.now.problem c.args.self.now.ranges c.loop-edge.bound.multipliers
    c.in-Some.edge one.result.0 one.result.1
    c.next_short.ensures.sound one.ensures.shortfall
    (one.ensures.amount c.loop-edge.bound.multipliers
    (c.deref.ensures.value ∙ c.loop-edge.invariant.pass.left_is)) c.if-amount-eq0.false
    one.ensures.few))

pub overflow_add-value : goal.overflow_add-value
overflow_add-value c = grind (arith, pass_to, little, few_edges)

pub loop-edge-preserved : goal.loop-edge-preserved
loop-edge-preserved c =
    let next : IsNextShort c.args.self.now.problem c.args.self.now.ranges c.loop-edge.from (Some c.in-Some.edge) =
    subst (IsNextShort c.args.self.now.problem c.args.self.now.ranges c.loop-edge.from)
    c.in-Some.is c.next_short.ensures.next in
    let pass = pass_to c.args.self.now.problem c.args.self.now.ranges c.loop-edge.bound.multipliers
    c.loop-edge.bound.left.items c.loop-edge.value c.loop-edge.from c.in-Some.edge c.loop-edge.invariant.pass next in
    let one = c.next_multiplier-missing in
    let multipliers = c.loop-edge.bound.multipliers in
    let more : List Multiplier = multipliers ++ record { edge = c.in-Some.edge; amount = one.result.1 } ∷ [] in
    let lowered = pass_some c.args.self.now.problem c.args.self.now.ranges multipliers
    c.in-Some.edge one.result.0 one.result.1
    c.next_short.ensures.sound one.ensures.shortfall
    (one.ensures.amount multipliers (c.deref.ensures.value ∙ c.loop-edge.invariant.pass.left_is)) c.if-amount-eq0.false
    c.loop-edge.bound.left.items c.take_off.new.left.items c.loop-edge.value one.ensures.few pass
    c.take_off.ensures.size c.take_off.ensures.lowered in
    record {
      pass = subst (λ (multipliers : List Multiplier). IsPass c.args.self.now.problem
          c.args.self.now.ranges multipliers c.take_off.new.left.items
          (c.loop-edge.value + c.from.result * c.from-in-Some.result) (c.in-Some.edge + 1))
          (sym c.in_ok-push_amount.ensures.ok)
          (subst (λ (amount : ℕ). IsPass c.args.self.now.problem c.args.self.now.ranges more c.take_off.new.left.items
          (c.loop-edge.value + amount * c.from-in-Some.result) (c.in-Some.edge + 1)) (sym c.from.ensures)
          (subst (λ (missing : ℕ). IsPass c.args.self.now.problem c.args.self.now.ranges more c.take_off.new.left.items
          (c.loop-edge.value + one.result.1 * missing) (c.in-Some.edge + 1)) (sym c.from-in-Some.ensures) lowered));
      within = omega (arith, next.1);
    }

pub signed-bound-requires : goal.signed-bound-requires
signed-bound-requires c = grind (arith, few_edges)

pub returns-clause-value : goal.returns-clause-value
returns-clause-value c =
    let last = (pass_last c.args.self.now.problem c.args.self.now.ranges
    c.loop-edge.bound.multipliers c.loop-edge.bound.left.items
    c.loop-edge.value c.loop-edge.from c.loop-edge.invariant.pass c.loop-edge.invariant.within
    (subst (IsNextShort c.args.self.now.problem c.args.self.now.ranges c.loop-edge.from) c.in_default.is
    c.next_short.ensures.next)) in
    to_z-of_z w128 c.signed-bound.result (record { sfits = c.signed-bound.type_inv })
    ∙ c.signed-bound.ensures ∙ ap pos last.1

pub returns-clause-multipliers : goal.returns-clause-multipliers
returns-clause-multipliers c =
    (pass_last c.args.self.now.problem c.args.self.now.ranges c.loop-edge.bound.multipliers c.loop-edge.bound.left.items
    c.loop-edge.value c.loop-edge.from c.loop-edge.invariant.pass c.loop-edge.invariant.within
    (subst (IsNextShort c.args.self.now.problem c.args.self.now.ranges c.loop-edge.from) c.in_default.is
    c.next_short.ensures.next)).0

pub returns-clause-least : goal.returns-clause-least
returns-clause-least c =
    let last = (pass_last c.args.self.now.problem c.args.self.now.ranges
    c.loop-edge.bound.multipliers c.loop-edge.bound.left.items
    c.loop-edge.value c.loop-edge.from c.loop-edge.invariant.pass c.loop-edge.invariant.within
    (subst (IsNextShort c.args.self.now.problem c.args.self.now.ranges c.loop-edge.from) c.in_default.is
    c.next_short.ensures.next)) in
    bound_is_least c.args.self.now.problem c.args.self.now.ranges
    (multipliers_of c.args.self.now.problem c.args.self.now.ranges)
    (subst (λ (multipliers : List Multiplier). are_within c.args.self.now.problem
    c.args.self.now.ranges multipliers ≡ true) last.0 c.loop-edge.invariant.pass.within)

pub push_amount-requires-clause-after : goal.push_amount-requires-clause-after
push_amount-requires-clause-after c = grind (arith, pass_to)

pub returns-clause-within : goal.returns-clause-within
returns-clause-within c = c.loop-edge.invariant.pass.within
