use Rattle.plan_num.proofs.Common.{◌<◌, ◌∙◌, List, length, map, take, ap, sym, arith}
use Rattle.plan_num.proofs.Common.{nil_from_length, take_all}
use Rattle.line_cost_model.specs.declared.multipliers.Multiplier.{Multiplier}
use Rattle.line_cost_model.specs.DualBounds.{are_within, left_of}
use Rattle.line_cost_model.proofs.Lowered.{left_more}
use Rattle.line_cost_model.proofs.PassSteps.{costs_left}
use Rattle.line_cost_model.proofs.Paying.{first_more, not_within, within_more}
use Rattle.line_cost_model.proofs.Proving.{holds_at}
use Rattle.line_cost_model.proofs.Within.{within_none}
use Rattle.line_cost_model.proofs.summed.SummedRegion.are_within.Goals as goal

pub loop-place-init : goal.loop-place-init
loop-place-init c = (
  c.in_ok-renew_costs.ensures ∙ costs_left c.args.self.now.problem.lines,
  within_none c.args.self.now.problem c.args.self.now.ranges,
)

pub returns-then-len-eq0 : goal.returns-then-len-eq0
returns-then-len-eq0 c = grind (arith, nil_from_length, within_none)

pub can_pay-requires-clause-there : goal.can_pay-requires-clause-there
can_pay-requires-clause-there c =
    holds_at (λ (multiplier : Multiplier). multiplier.edge < length c.args.self.now.problem.edges)
    c.args.multipliers.now
    c.loop-place.place c.at-multiplier.result c.requires c.at-multiplier.ensures

pub returns-then-not-can_pay : goal.returns-then-not-can_pay
returns-then-not-can_pay c =
    let so_far = take c.loop-place.place c.args.multipliers.now in
    sym (not_within c.args.self.now.problem c.args.self.now.ranges c.args.multipliers.now c.loop-place.place
    c.at-multiplier.result
    c.at-multiplier.ensures c.can_pay.result c.loop-place.invariant.1
    (c.can_pay.ensures so_far (c.deref.ensures.value ∙ c.loop-place.invariant.0))
    c.if-not-can_pay.true)

pub take_off-requires-clause-there : goal.take_off-requires-clause-there
take_off-requires-clause-there c =
    holds_at (λ (multiplier : Multiplier). multiplier.edge < length c.args.self.now.problem.edges)
    c.args.multipliers.now
    c.loop-place.place c.at-multiplier.result c.requires c.at-multiplier.ensures

pub loop-place-preserved : goal.loop-place-preserved
loop-place-preserved c =
    let one = c.at-multiplier.result in
    let so_far = take c.loop-place.place c.args.multipliers.now in (
      left_more c.args.self.now.problem.lines so_far one.edge one.amount c.loop-place.left.items
          c.take_off.new.left.items
          c.loop-place.invariant.0 c.take_off.ensures.size c.take_off.ensures.lowered
          ∙ ap (λ (multipliers : List Multiplier). map (left_of multipliers) c.args.self.now.problem.lines)
          (sym (first_more c.args.self.now.problem c.args.self.now.ranges c.args.multipliers.now
          c.loop-place.place one c.at-multiplier.ensures)),
      within_more c.args.self.now.problem c.args.self.now.ranges c.args.multipliers.now c.loop-place.place one
          c.at-multiplier.ensures c.can_pay.result c.loop-place.invariant.1
          (c.can_pay.ensures so_far (c.deref.ensures.value ∙ c.loop-place.invariant.0))
          ∙ c.if-not-can_pay.false,
    )

pub returns : goal.returns
returns c =
    sym c.loop-place.invariant.1
    ∙ ap (are_within c.args.self.now.problem c.args.self.now.ranges)
    (take_all c.loop-place.place c.args.multipliers.now
    (omega (arith, c.loop-place-test.false, c.len-place-end.ensures.len)))
