use Rattle.plan_num.proofs.Common.{◌≤◌, length, ap, arith, subst, sym, ◌∙◌, err_from_is_err_and}
use Rattle.event_activity.specs.Fitting.{AreTimely}
use Rattle.event_activity.proofs.DrivenEvents.{events_given}
use Rattle.event_activity.proofs.EanCalls.{network_refused, concept_refused, events_refused, ean_given}
use Rattle.event_activity.proofs.Served.{served}
use Rattle.event_activity.proofs.Timely.{bundle_timely}
use Rattle.event_activity.proofs.stage.ean_of_bundle.Goals as goal

pub returns-in_err-network : goal.returns-in_err-network
returns-in_err-network c =
    let p = err_from_is_err_and c.from_residual.result c.from_residual.ensures.1 in
    rw (p.1, p.2) (network_refused c.args.bundle.now c.in_err-network.field-0.0
    (rw (c.input.ensures, c.input-2.ensures) at c.in_err-network.ensures))

pub returns-in_err-pool : goal.returns-in_err-pool
returns-in_err-pool c =
    let p = err_from_is_err_and c.from_residual-in_err-pool.result
    c.from_residual-in_err-pool.ensures.1 in
    let network = rw (c.input.ensures, c.input-2.ensures) at c.in_ok-network.ensures in
    rw (p.1, p.2) (concept_refused c.args.bundle.now c.in_ok-network.network network.0 network.1
    c.in_err-pool.field-0.0 (rw c.input-3.ensures at c.in_err-pool.ensures.made))

pub event_count-event_count-requires : goal.event_count-event_count-requires
event_count-event_count-requires c =
    served _ _ _ c.in_ok-network.network c.in_ok-pool.pool c.in_ok-network.ensures.0
    c.in_ok-network.ensures.1 c.in_ok-pool.ensures.made.0 c.in_ok-pool.ensures.made.1

pub returns-then-event_count-gt-MOST_EVENTS : goal.returns-then-event_count-gt-MOST_EVENTS
returns-then-event_count-gt-MOST_EVENTS c =
    let network = rw (c.input.ensures, c.input-2.ensures) at c.in_ok-network.ensures in
    let pool = rw c.input-3.ensures at c.in_ok-pool.ensures.made in
    rw c.too_many.ensures (events_refused c.args.bundle.now c.in_ok-network.network network.0
    network.1 c.in_ok-pool.pool pool.0 pool.1 c.event_count-event_count.result
    c.event_count-event_count.ensures c.if-event_count-gt-MOST_EVENTS.true)

pub concept_events-requires-clause-served : goal.concept_events-requires-clause-served
concept_events-requires-clause-served c =
    served _ _ _ c.in_ok-network.network c.in_ok-pool.pool c.in_ok-network.ensures.0
    c.in_ok-network.ensures.1 c.in_ok-pool.ensures.made.0 c.in_ok-pool.ensures.made.1

pub ean_of_events-requires : goal.ean_of_events-requires
ean_of_events-requires c =
    let made = c.deref.ensures.value ∙ c.in_ok-events.ensures in
    let are = served _ _ _ c.in_ok-network.network c.in_ok-pool.pool c.in_ok-network.ensures.0
    c.in_ok-network.ensures.1 c.in_ok-pool.ensures.made.0 c.in_ok-pool.ensures.made.1 in
    record {
      settings = subst AreTimely (sym c.settings.ensures)
          (bundle_timely c.args.bundle.now c.requires.stage c.requires.fits);
      events = events_given c.in_ok-network.network c.in_ok-pool.pool
          are c.deref.result.now made;
      few = omega (
        arith,
        c.event_count-event_count.ensures,
        c.if-event_count-gt-MOST_EVENTS.false,
        ap length made,
      );
    }

pub returns : goal.returns
returns c =
    let network = rw (c.input.ensures, c.input-2.ensures) at c.in_ok-network.ensures in
    let pool = rw c.input-3.ensures at c.in_ok-pool.ensures.made in
    let made = c.deref.ensures.value ∙ c.in_ok-events.ensures in
    let few : length c.deref.result.now ≤ 4000 =
    omega (
      arith,
      c.event_count-event_count.ensures,
      c.if-event_count-gt-MOST_EVENTS.false,
      ap length made,
    ) in
    ean_given c.args.bundle.now c.in_ok-network.network network.0 network.1 c.in_ok-pool.pool
    pool.0 pool.1 c.settings.result.now c.settings.ensures c.deref.result.now
    made few
    c.ean_of_events.result c.ean_of_events.ensures
