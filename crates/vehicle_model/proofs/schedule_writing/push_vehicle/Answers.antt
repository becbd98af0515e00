use Rattle.plan_num.proofs.Common.{◌<◌, ◌≤◌, ◌++◌, ◌∷◌, [], length, ap, sym, ◌∙◌, arith}
use Rattle.vehicle_model.proofs.Following.{links_within}
use Rattle.vehicle_model.proofs.VehicleRows.{on_start, on_more, on_none, on_end}
use Rattle.vehicle_model.proofs.schedule_writing.push_vehicle.Goals as goal

pub loop-turn-init : goal.loop-turn-init
loop-turn-init c = on_start c.args.trips.now c.args.plan.now c.args.vehicle c.args.first
    c.args.rows.now.items _ c.requires.first (c.in_ok-push.ensures.items
    ∙ ap (λ row. c.args.rows.now.items ++ row ∷ []) c.trip_row.ensures)

pub trip_row-requires-in-Some : goal.trip_row-requires-in-Some
trip_row-requires-in-Some c = (links_within c.args.trips.now c.loop-turn.last c.in-Some.next
    (c.requires.plan.follow c.loop-turn.last c.in-Some.next (sym c.next.ensures ∙ c.in-Some.is))).1

pub returns-in-None : goal.returns-in-None
returns-in-None c = on_none c.args.trips.now c.args.plan.now c.args.vehicle c.args.first
    c.args.rows.now.items c.loop-turn.rows.items c.loop-turn.number c.loop-turn.last c.loop-turn._turn
    c.loop-turn.invariant (sym c.next.ensures ∙ c.in-None.is)

pub loop-turn-preserved : goal.loop-turn-preserved
loop-turn-preserved c =
    let left : c.loop-turn._turn < length c.args.plan.now = grind arith in
    let is = sym c.next.ensures ∙ c.in-Some.is in
    let there = links_within c.args.trips.now c.loop-turn.last c.in-Some.next
    (c.requires.plan.follow c.loop-turn.last c.in-Some.next is) in
    on_more c.args.trips.now c.args.plan.now c.args.vehicle c.args.first c.args.rows.now.items
    c.loop-turn.rows.items c.loop-turn.number c.loop-turn.last c.loop-turn._turn
    c.loop-turn.invariant c.in-Some.next c.push-in-Some.new.self.items _ left is
    (omega (arith, there.1, c.requires.plan.each))
    (c.in_ok-push-in-Some.ensures.items
    ∙ ap (λ row. c.loop-turn.rows.items ++ row ∷ []) c.empty_row.ensures)
    (c.in_ok-push-in-Some-2.ensures.items
    ∙ ap (λ row. c.push-in-Some.new.self.items ++ row ∷ []) c.trip_row-in-Some.ensures)

pub returns : goal.returns
returns c =
    let past : length c.args.plan.now ≤ c.loop-turn._turn = grind arith in
    grind (arith, on_end)
