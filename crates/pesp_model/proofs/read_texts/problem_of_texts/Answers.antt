use Rattle.plan_num.proofs.Common.{◌≤◌, map, length, ap, sym, subst, ◌∙◌, err_from_is_err_and}
use Rattle.tables.proofs.Common.{Refuses}
use Rattle.pesp_model.specs.PespTexts.{activity_of}
use Rattle.pesp_model.proofs.Texts.{refused_events, activity_faults, problem_is, problem_sound}
use Rattle.pesp_model.proofs.read_texts.problem_of_texts.Goals as goal

pub returns-in_err-events-clause-read : goal.returns-in_err-events-clause-read
returns-in_err-events-clause-read c =
    let p = err_from_is_err_and c.from_residual.result c.from_residual.ensures.1 in
    rw (p.1, p.2) (refused_events c.args.events.now c.args.activities.now c.in_err-events.field-0.0
    c.in_err-events.ensures.read)

pub returns-in_err-rows-clause-read : goal.returns-in_err-rows-clause-read
returns-in_err-rows-clause-read c =
    let p = err_from_is_err_and c.from_residual-in_err-rows.result
    c.from_residual-in_err-rows.ensures.1 in
    let read = c.in_ok-events.ensures.read in
    let all = activity_faults c.args.events.now c.args.activities.now c.deref.result.now read.0
    (c.deref.ensures.value ∙ read.1) in
    rw (p.1, p.2) (subst (λ some. Refuses some c.in_err-rows.field-0.0) all
    c.in_err-rows.ensures.read)

pub new-requires : goal.new-requires
new-requires c =
    problem_sound (length c.deref.result.now) c.in_ok-rows.rows.items c.in_ok-rows.ensures.sound
    c.args.period c.requires.some c.requires.few c.len.result
    (c.len.ensures ∙ sym c.deref.ensures.len)
    (subst (λ events. length events ≤ 4000) (sym c.deref.ensures.value)
    c.in_ok-events.ensures.sound.few) c.in_ok-activities.activities.items
    (c.in_ok-activities.ensures ∙ ap (map activity_of) c.deref-2.ensures.value)

pub returns-clause-read : goal.returns-clause-read
returns-clause-read c =
    let read = c.in_ok-events.ensures.read in
    let are = c.deref.ensures.value ∙ read.1 in
    let rows = c.in_ok-rows.ensures.read in
    let events = c.deref.result.now in (
      sym (activity_faults c.args.events.now c.args.activities.now events read.0 are) ∙ rows.0,
      c.new.ensures
          ∙ problem_is c.args.events.now c.args.activities.now events read.0 are c.args.period
          c.len.result c.deref-2.result.now c.in_ok-activities.activities.items
          (c.len.ensures ∙ sym c.deref.ensures.len) (c.deref-2.ensures.value ∙ rows.1)
          c.in_ok-activities.ensures,
    )
