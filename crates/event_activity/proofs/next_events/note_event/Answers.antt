use Rattle.plan_num.proofs.Common.{List, [], ◌∷◌, ◌++◌, map, set, ap, sym, ◌∙◌, arith, Vec, Global}
use Rattle.plan_num.proofs.Common.{map-set, get_or-map}
use Rattle.event_activity.specs.declared.run_event.RunEvent.{RunEvent}
use Rattle.event_activity.proofs.next_events.note_event.Goals as goal

pub returns-clause-noted : goal.returns-clause-noted
returns-clause-noted c =
    let rows = c.args.rows.now in
    let list = c.args.list in
    let items : Vec RunEvent Global → List RunEvent = λ row. row.items in
    map-set items rows.items list c.push.new.self
    ∙ ap (set (map items rows.items) list) (c.in_ok-push.ensures.items
    ∙ ap (λ row. row ++ c.args.event.now ∷ []) (ap items c.index_mut.ensures.value ∙ sym
    (get_or-map items rows.items list c.index_mut.result.now []
    (omega (arith, rows.ok, c.requires)))))
