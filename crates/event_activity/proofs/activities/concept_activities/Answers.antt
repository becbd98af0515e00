use Rattle.plan_num.proofs.Common.{◌≡◌, ◌∙◌, ap, arith, length, IfOk-weaker}
use Rattle.event_activity.specs.Activities.{with_numbers, concept_activities}
use Rattle.event_activity.proofs.Joined.{activities_few, activities_told}
use Rattle.event_activity.proofs.activities.concept_activities.Goals as goal

pub with_numbers-requires : goal.with_numbers-requires
with_numbers-requires c =
    omega (
      arith,
      ap length c.deref.ensures.value,
      activities_few c.args.settings.now c.args.events.now c.joinings-joining-items.result.now
          c.joinings-joining-items.ensures.all c.loop-joining.joining-index
          (omega (arith, c.loop-joining-test.false)) c.loop-joining.activities.items
          c.loop-joining.invariant c.requires.few,
    )

pub returns : goal.returns
returns c =
    IfOk-weaker c.with_numbers.result (λ numbered. numbered.items ≡ with_numbers c.deref.result.now)
    (λ numbered. numbered.items ≡ concept_activities c.args.settings.now c.args.events.now)
    (λ numbered is. activities_told c.args.settings.now c.args.events.now
    c.joinings-joining-items.result.now c.joinings-joining-items.ensures.all
    c.loop-joining.joining-index (omega (arith, c.loop-joining-test.false))
    c.loop-joining.activities.items c.loop-joining.invariant numbered.items
    (is ∙ ap with_numbers c.deref.ensures.value)) c.with_numbers.ensures
