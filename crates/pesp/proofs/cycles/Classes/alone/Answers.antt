use Rattle.plan_num.proofs.Common.{◌≡◌, ◌∙◌, ◌<◌, ◌∷◌, [], All, ap, arith, length, refl, subst, sym}
use Rattle.plan_num.proofs.Common.{length-append, All-push}
use Rattle.pesp.specs.declared.cycles.Place.{Place}
use Rattle.pesp.specs.Cycles.{IsPlaced}
use Rattle.pesp.proofs.Classed.{ArePlaced, all_alone, alone, placed_more}
use Rattle.pesp.proofs.cycles.Classes.alone.Goals as goal

pub returns : goal.returns
returns c =
    let so = c.loop-event.invariant in
    let count = c.event_count-event-end.ensures in
    let all : c.loop-event.event ≡ c.args.pesp.now.events =
    omega (arith, c.loop-event-test.false, c.loop-event.auto.event-end, count.count) in
    all_alone c.args.pesp.now count.problem _ refl (sym c.requires.period) so.placed (so.places ∙ all)
    (so.shifts ∙ all) so.zeros c.new.ensures.items

pub loop-event-preserved : goal.loop-event-preserved
loop-event-preserved c =
    let so = c.loop-event.invariant in
    let count = c.event_count-event-end.ensures in
    let place : Place = record { first = c.loop-event.event; there = 0; back = 0 } in
    let within : c.loop-event.event < c.args.pesp.now.events =
    omega (arith, c.loop-event-test.true, count.count) in
    record {
      placed = subst (ArePlaced c.args.pesp.now) (sym c.in_ok-push.ensures.items)
          (placed_more c.args.pesp.now c.loop-event.places.items place so.placed
          (subst (λ event. IsPlaced c.args.pesp.now event place) (sym so.places)
          (alone c.args.pesp.now count.problem c.loop-event.event within)));
      places = omega (
        arith,
        ap length c.in_ok-push.ensures.items,
        length-append c.loop-event.places.items (place ∷ []),
        so.places,
      );
      shifts = omega (
        arith,
        ap length c.in_ok-push-2.ensures.items,
        length-append c.loop-event.shifts.items (0 ∷ []),
        so.shifts,
      );
      zeros = subst (All (λ shift. shift ≡ 0)) (sym c.in_ok-push-2.ensures.items)
          (All-push (λ shift. shift ≡ 0) c.loop-event.shifts.items 0 so.zeros refl);
    }
