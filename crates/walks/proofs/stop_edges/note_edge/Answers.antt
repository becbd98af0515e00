use Rattle.plan_num.proofs.Common.{ℕ, List, [], ◌∷◌, ◌++◌, map, set, ap, sym, ◌∙◌, arith, Vec}
use Rattle.plan_num.proofs.Common.{Global, map-set, get_or-map}
use Rattle.walks.proofs.stop_edges.note_edge.Goals as goal

pub returns-clause-noted : goal.returns-clause-noted
returns-clause-noted c =
    let rows = c.args.rows.now in
    let stop = c.args.stop in
    let items : Vec ℕ Global → List ℕ = λ row. row.items in
    map-set items rows.items stop c.push.new.self
    ∙ ap (set (map items rows.items) stop) (c.in_ok-push.ensures.items
    ∙ ap (λ row. row ++ c.args.index ∷ []) (ap items c.index_mut.ensures.value ∙ sym
    (get_or-map items rows.items stop c.index_mut.result.now []
    (omega (arith, rows.ok, c.requires)))))
