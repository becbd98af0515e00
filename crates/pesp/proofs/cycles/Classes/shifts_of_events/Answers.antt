use Rattle.plan_num.proofs.Common.{◌≡◌, ◌∙◌, ◌<◌, List, arith, ap, get_or, length, subst, sym}
use Rattle.plan_num.proofs.Common.{get_or_default_zero}
use Rattle.pesp.specs.declared.cycles.Place.{Place}
use Rattle.pesp.specs.Cycles.{IsPlaced}
use Rattle.pesp.proofs.Classed.{no_shifts, shift_more}
use Rattle.pesp.proofs.cycles.Classes.shifts_of_events.Goals as goal

pub loop-place-init : goal.loop-place-init
loop-place-init c = no_shifts c.args.self.now.pesp.now c.new-shifts.result.items c.new-shifts.ensures.items

pub returns : goal.returns
returns c =
    let so = c.loop-place.invariant in
    let count : c.loop-place.place-index ≡ c.args.self.now.pesp.now.events =
    omega (
      arith,
      c.loop-place-test.false,
      c.loop-place.auto.place-index-end,
      ap (length {A = Place}) c.deref-place-items.ensures.value,
      c.requires.places,
    ) in
    record {
      size = so.size ∙ count;
      around = λ event low. so.around event (omega (arith, low, count));
      few = λ event low. so.few event (omega (arith, low, count));
    }

pub loop-place-preserved : goal.loop-place-preserved
loop-place-preserved c =
    let problem = c.args.self.now.pesp.now in
    let within : c.loop-place.place-index < problem.events =
    omega (
      arith,
      c.loop-place-test.true,
      ap (length {A = Place}) c.deref-place-items.ensures.value,
      c.requires.places,
    ) in
    let placed = subst (λ (items : List Place). IsPlaced problem c.loop-place.place-index
    (get_or items c.loop-place.place-index _)) (sym c.deref-place-items.ensures.value)
    (c.requires.placed c.loop-place.place-index _ within) in
    shift_more problem c.args.self.now c.requires c.loop-place.shifts.items c.push.new.self.items
    c.loop-place.place-index _ c.index.result.now c.loop-place.invariant placed
    (c.index.ensures ∙ get_or_default_zero c.args.self.now.shifts.items _ c.index.result.now
    (omega (arith, placed.inside, c.requires.shifts)))
    c.in_ok-push.ensures.items
