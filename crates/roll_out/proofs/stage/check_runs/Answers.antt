use Rattle.plan_num.proofs.Common.{arith, All, length, map, ap, subst, sym, ◌∙◌, flat_map}
use Rattle.plan_num.proofs.Common.{err_from_is_err_and}
use Rattle.event_tables.proofs.Common.{IsOneOf, broken_events, broken_in, unjoined_events}
use Rattle.event_tables.proofs.Common.{unjoined_in}
use Rattle.roll_out.proofs.FilesRead.{activities_fine, events_fine}
use Rattle.roll_out.proofs.RuleRows.{activities_told, activity_id, broken_ids, event_id, event_refused, run_refused, stray_ids, unjoined_ids}
use Rattle.roll_out.proofs.SoundPlans.{ids_in, runs_there}
use Rattle.roll_out.proofs.stage.check_runs.Goals as goal

pub no_event_at-requires-clause-read : goal.no_event_at-requires-clause-read
no_event_at-requires-clause-read c =
    rw c.input-text.ensures (events_fine c.args.bundle.now c.requires.read)

pub no_event_at-requires-clause-there : goal.no_event_at-requires-clause-there
no_event_at-requires-clause-there c =
    let events = c.args.network.now.events in grind (arith, event_id, broken_ids, ids_in)

pub returns-in_err-no_event_at : goal.returns-in_err-no_event_at
returns-in_err-no_event_at c =
    let p = err_from_is_err_and c.from_residual-in_err-no_event_at.result
    c.from_residual-in_err-no_event_at.ensures.1 in grind (arith, event_id, run_refused)

pub unjoined_events-requires : goal.unjoined_events-requires
unjoined_events-requires c =
    subst (All (All (λ event. IsOneOf (length c.args.network.now.events) event.id)))
    (sym c.requires.runs) (runs_there c.args.network.now c.events-events.ensures.sound)

pub no_event_at-requires-2-clause-read : goal.no_event_at-requires-2-clause-read
no_event_at-requires-2-clause-read c =
    rw c.input-text.ensures (events_fine c.args.bundle.now c.requires.read)

pub no_event_at-requires-2-clause-there : goal.no_event_at-requires-2-clause-there
no_event_at-requires-2-clause-there c =
    let events = c.args.network.now.events in grind (arith, event_id, unjoined_ids, ids_in)

pub returns-in_err-no_event_at-2 : goal.returns-in_err-no_event_at-2
returns-in_err-no_event_at-2 c =
    let p = err_from_is_err_and c.from_residual-in_err-no_event_at-2.result
    c.from_residual-in_err-no_event_at-2.ensures.1 in
    let first = c.deref.ensures.value ∙ c.in_ok-broken.ensures
    ∙ ap (λ runs. map event_id (flat_map broken_in runs)) c.requires.runs
    ∙ ap (λ n. map event_id (broken_events n.events)) c.requires.network in
    let are = c.deref-2.ensures.value ∙ c.in_ok-unjoined.ensures
    ∙ ap (λ runs. map event_id (flat_map (unjoined_in c.args.network.now.activities) runs))
    c.requires.runs
    ∙ ap (λ n. map event_id (unjoined_events n.events n.activities)) c.requires.network in
    rw (p.1, p.2) (event_refused c.args.bundle.now c.deref.result.now first
    c.in_ok-no_event_at.ensures.1
    c.deref-2.result.now c.in_err-no_event_at-2.field-0.0 are
    (rw c.input-text.ensures at c.in_err-no_event_at-2.ensures))

pub no_activity_at-requires-clause-read : goal.no_activity_at-requires-clause-read
no_activity_at-requires-clause-read c =
    let same = c.events-events.ensures.events ∙ ap (λ n. n.events) c.requires.network in
    rw (same, c.input-text-2.ensures) (activities_fine c.args.bundle.now c.requires.read)

pub no_activity_at-requires-clause-there : goal.no_activity_at-requires-clause-there
no_activity_at-requires-clause-there c =
    let events = c.args.network.now.events in grind (arith, activity_id, stray_ids)

pub returns : goal.returns
returns c =
    let first = c.deref.ensures.value ∙ c.in_ok-broken.ensures
    ∙ ap (λ runs. map event_id (flat_map broken_in runs)) c.requires.runs
    ∙ ap (λ n. map event_id (broken_events n.events)) c.requires.network in grind (
      arith,
      event_id,
      activity_id,
      activities_told,
    )
