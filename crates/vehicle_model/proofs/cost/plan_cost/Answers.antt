use Rattle.plan_num.proofs.Common.{◌<◌, ◌≤◌, ◌-◌, length, arith, sym, ◌∙◌, w128, ints}
use Rattle.std.proofs.Math.Nat.{mul-le-mul}
use Rattle.std.proofs.lemmas.Int.{to_z-of_z}
use Rattle.vehicle_model.proofs.Costs.{over_link, over_last, all_cost, cost_by_gain}
use Rattle.vehicle_model.proofs.cost.plan_cost.Goals as goal
use Rattle.vehicle_model.proofs.cost.plan_cost.Goals.{in-Some, in_default}

pub loop-i-preserved : goal.loop-i-preserved
loop-i-preserved c =
    let within : c.loop-i.i < length c.args.plan.now =
    omega (arith, c.loop-i-test.true, c.len-i-end.ensures.count, c.requires.each) in
    elim c.match-next.branch [
      | in-Some w ↦ rw (w.links-is, w.minutes-is) (over_link c.args.trips.now c.args.plan.now
          c.loop-i.i c.loop-i.links c.loop-i.minutes c.loop-i.invariant within w.in-Some.j
          w.minutes_of-minutes.result (sym c.next.ensures ∙ w.in-Some.is)
          w.minutes_of-minutes.ensures.value w.minutes_of-minutes.ensures.small)
      | in_default w ↦ rw (w.links-is, w.minutes-is) (over_last c.args.trips.now c.args.plan.now
          c.loop-i.i c.loop-i.links c.loop-i.minutes c.loop-i.invariant within
          (sym c.next.ensures ∙ w.in_default.is))
    ]

pub overflow_add-minutes : goal.overflow_add-minutes
overflow_add-minutes c = omega (
  arith,
  c.minutes_of-minutes.ensures.small,
  c.loop-i.invariant.small,
  c.len-i-end.ensures.count,
  c.len-i-end.ensures.trips.rows.few,
)

pub cost_of-requires-clause-few : goal.cost_of-requires-clause-few
cost_of-requires-clause-few c = omega (arith, c.len.ensures.count, c.len.ensures.trips.rows.few)

pub cost_of-requires-clause-small : goal.cost_of-requires-clause-small
cost_of-requires-clause-small c = omega (
  arith,
  c.loop-i.invariant.small,
  c.len-i-end.ensures.count,
  c.len-i-end.ensures.trips.rows.few,
  c.loop-i.auto.i-end,
)

pub returns-clause-cost : goal.returns-clause-cost
returns-clause-cost c =
    let past : length c.args.plan.now ≤ c.loop-i.i = grind arith in grind (
      arith,
      to_z-of_z,
      all_cost,
    )

pub returns-clause-gain : goal.returns-clause-gain
returns-clause-gain c =
    returns-clause-cost c ∙ cost_by_gain c.args.trips.now c.args.plan.now c.requires

pub returns-clause-small : goal.returns-clause-small
returns-clause-small c =
    let are = c.len.ensures.trips in
    let few : c.len.result - c.loop-i.links ≤ 2000 = omega (arith, c.len.ensures.count, are.rows.few) in
    let short : c.loop-i.minutes ≤ 20000000000000000 = omega (
      arith,
      c.loop-i.invariant.small,
      c.len-i-end.ensures.count,
      c.len-i-end.ensures.trips.rows.few,
      c.loop-i.auto.i-end,
    ) in
    let handed = to_z-of_z w128 c.cost_of.result (record { sfits = c.cost_of.type_inv }) ∙ c.cost_of.ensures in
    let vehicles = mul-le-mul are.cheap_vehicle few in
    let dead = mul-le-mul are.cheap_minutes short in
    omega (arith, ints, handed, vehicles, dead)
