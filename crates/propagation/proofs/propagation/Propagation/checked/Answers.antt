use Rattle.plan_num.proofs.Common.{◌∙◌, sym}
use Rattle.propagation.specs.CheckedDays.{is_day}
use Rattle.propagation.specs.Links.{parts_of}
use Rattle.propagation.proofs.PassedDays.{passed_day}
use Rattle.propagation.proofs.propagation.Propagation.checked.Goals as goal

pub of_parts-requires : goal.of_parts-requires
of_parts-requires c =
    passed_day (parts_of c.args.events.items c.args.earliest.items c.args.rides.items
    c.args.changes.items c.args.turns.items)
    ((λ i. is_day (parts_of (sym c.deref.ensures.value i) (sym c.deref-2.ensures.value i)
    (sym c.deref-3.ensures.value i) (sym c.deref-4.ensures.value i) (sym c.deref-5.ensures.value i)))
    ∙ sym c.is_day.ensures ∙ c.if-is_day.true)
