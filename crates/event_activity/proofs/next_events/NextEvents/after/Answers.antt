use Rattle.plan_num.proofs.Common.{◌≡◌, ℕ, ◌%◌, ◌<◌, ◌≤◌, List, [], length, map, get_or, ap, sym}
use Rattle.plan_num.proofs.Common.{◌∙◌, arith, Vec, Global, get_or-map, length-map}
use Rattle.event_activity.specs.declared.run_event.RunEvent.{RunEvent}
use Rattle.event_activity.proofs.Candidates.{all_among, few_among}
use Rattle.event_activity.proofs.next_events.NextEvents.after.Goals as goal

abbrev items : Vec RunEvent Global → List RunEvent
items row = row.items

-- the row that is taken is the list of the key
the_list : (rows : List (Vec RunEvent Global)) (lists : List (List RunEvent)) (key at size : ℕ)
    (row : Vec RunEvent Global) → lists ≡ map items rows → at ≡ key → size ≡ length rows
    → 1 ≤ length lists → row ≡ get_or rows (at % size) row
    → row.items ≡ get_or lists (key % length lists) []
the_list rows lists key at size row view is sized some taken =
    let count : length lists ≡ length rows = ap length view ∙ length-map rows items in
    let place : at % size ≡ key % length lists =
    ap (λ k. k % size) is ∙ ap (λ n. key % n) (sized ∙ sym count) in
    let inside : key % length lists < length rows = omega (arith, some, count) in
    ap items taken ∙ ap (λ i. items (get_or rows i row)) place
    ∙ sym (get_or-map items rows (key % length lists) row [] inside)
    ∙ ap (λ (all : List (List RunEvent)). get_or all (key % length lists) []) (sym view)

pub returns-clause-among : goal.returns-clause-among
returns-clause-among c events are =
    all_among c.args.joining events c.args.self.now are c.args.event.now c.as_slice.result.now
    (c.as_slice.ensures.value
    ∙ the_list c.self.inside.rows.items c.args.self.now _ _ c.len.result c.index.result.now
    (sym c.self.view_is) c.key_from.ensures
    (omega (arith, c.len.ensures, c.self.inside.rows.ok)) c.requires c.index.ensures)

pub returns-clause-few : goal.returns-clause-few
returns-clause-few c events are =
    few_among c.args.joining events c.args.self.now are c.args.event.now c.as_slice.result.now
    (c.as_slice.ensures.value
    ∙ the_list c.self.inside.rows.items c.args.self.now _ _ c.len.result c.index.result.now
    (sym c.self.view_is) c.key_from.ensures
    (omega (arith, c.len.ensures, c.self.inside.rows.ok)) c.requires c.index.ensures)
