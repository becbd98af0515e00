use Rattle.plan_num.proofs.Common.{◌+◌, ◌*◌, ◌≤◌, ◌<◌, ◌∙◌, length, ap, pos, subst, sym, arith}
use Rattle.plan_num.proofs.Common.{w128}
use Rattle.std.proofs.lemmas.Int.{to_z-of_z}
use Rattle.line_cost_model.specs.declared.multipliers.Multiplier.{Multiplier}
use Rattle.line_cost_model.proofs.FewLines.{few_edges}
use Rattle.line_cost_model.proofs.Proving.{adds_little, bound_first, bound_more, bound_whole, few_places, holds_at}
use Rattle.line_cost_model.proofs.summed.SummedRegion.bound_by.Goals as goal
use Rattle.line_cost_model.proofs.summed.SummedRegion.bound_by.Goals.{After-from-in-loop-place}

pub loop-place-init : goal.loop-place-init
loop-place-init c = (
  bound_first c.args.self.now.problem c.args.self.now.ranges c.args.multipliers.now c.least_millionths-value.result
      c.least_millionths-value.ensures.cost,
  omega arith,
  omega (arith, c.least_millionths-value.ensures.few),
)

little : (c : After-from-in-loop-place)
    → c.from.result * c.from-in-loop-place.result ≤ 4294967296000000000000000000
little c =
    subst (λ amount. amount * c.from-in-loop-place.result ≤ 4294967296000000000000000000)
    (sym c.from.ensures)
    (subst (λ missing. c.at-multiplier.result.amount * missing ≤ 4294967296000000000000000000)
    (sym c.from-in-loop-place.ensures)
    (adds_little c.args.multipliers.now c.loop-place.place c.shortfall-missing.result
    c.at-multiplier.result
    c.len-place-end.ensures.sound c.at-multiplier.ensures c.shortfall-missing.ensures.few))

place_there : (c : After-from-in-loop-place) → c.loop-place.place < length c.args.self.now.problem.edges
place_there c =
    let own : c.at-multiplier.result.edge < length c.args.self.now.problem.edges =
    holds_at (λ (multiplier : Multiplier). multiplier.edge < length c.args.self.now.problem.edges)
    c.args.multipliers.now
    c.loop-place.place c.at-multiplier.result c.requires c.at-multiplier.ensures in
    let few = few_places c.args.multipliers.now c.loop-place.place c.at-multiplier.result
    c.len-place-end.ensures.sound c.at-multiplier.ensures in
    omega (arith, own, few)

pub overflow_add-value : goal.overflow_add-value
overflow_add-value c = record {
  fits = grind (arith, little, place_there, few_edges);
}

pub loop-place-preserved : goal.loop-place-preserved
loop-place-preserved c = (
  ap (λ amount. c.loop-place.value + amount * c.from-in-loop-place.result) c.from.ensures
      ∙ ap (λ missing. c.loop-place.value + c.at-multiplier.result.amount * missing)
      c.from-in-loop-place.ensures
      ∙ bound_more c.args.self.now.problem c.args.self.now.ranges c.args.multipliers.now c.loop-place.value
      c.loop-place.place
      c.shortfall-missing.result c.at-multiplier.result c.at-multiplier.ensures
      c.shortfall-missing.ensures.shortfall
      c.loop-place.invariant.0,
  omega (arith, place_there c),
  let few = c.loop-place.invariant.2 in grind (arith, little),
)

pub signed-requires : goal.signed-requires
signed-requires c =
    let there = c.loop-place.invariant.1 in grind (arith, few_edges)

pub returns : goal.returns
returns c =
    to_z-of_z w128 c.signed.result (record { sfits = c.signed.type_inv }) ∙ c.signed.ensures
    ∙ ap pos (c.loop-place.invariant.0
    ∙ bound_whole c.args.self.now.problem c.args.self.now.ranges c.args.multipliers.now c.loop-place.place
    (omega (arith, c.loop-place-test.false, c.len-place-end.ensures.len)))
