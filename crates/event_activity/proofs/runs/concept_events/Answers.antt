use Rattle.plan_num.proofs.Common.{◌≡◌, ◌∙◌, ap, arith, length, map, enumerate_from, IfOk-weaker}
use Rattle.event_activity.specs.Runs.{with_id, concept_events}
use Rattle.event_activity.proofs.LineEvents.{events_few, events_told}
use Rattle.event_activity.proofs.runs.concept_events.Goals as goal

pub with_ids-requires : goal.with_ids-requires
with_ids-requires c =
    omega (
      arith,
      ap length c.deref.ensures.value,
      events_few c.args.network.now c.args.pool.now c.loop-line.events.items c.loop-line.line
          (omega arith) c.loop-line.invariant c.requires.few,
    )

pub returns : goal.returns
returns c =
    let events = c.loop-line.events.items in
    IfOk-weaker c.with_ids.result
    (λ numbered. numbered.items ≡ map with_id (enumerate_from 1 c.deref.result.now))
    (λ numbered. numbered.items ≡ concept_events c.args.network.now c.args.pool.now)
    (λ numbered is. events_told c.args.network.now c.args.pool.now events numbered.items
    c.loop-line.line (omega arith) c.loop-line.invariant (is ∙ ap (λ some. map with_id
    (enumerate_from 1 some)) c.deref.ensures.value)) c.with_ids.ensures
