use Rattle.plan_num.proofs.Common.{ℤ, pos, refl, rules}
use Rattle.std.proofs.lemmas.List.Sorted.{answers_always}
use Rattle.line_search.specs.declared.pool_rows.PlacedEdge.{PlacedEdge}
use Rattle.line_search.proofs.Grouped.{sorted_groups}
use Rattle.line_search.proofs.pool_rows.sort_by_line.Goals as goal

pub returns : goal.returns
returns c =
    let line : PlacedEdge → ℤ = λ row. row.line in
    let of : ℤ → PlacedEdge = λ id. record { line = id; order = pos 0; edge = pos 0 } in
    sorted_groups line of (λ id. refl) c.args.rows.now.items c.sort_by_key.new.self.items
    (c.in_ok-sort_by_key.ensures.sorted line (answers_always _ _ _ (λ f a r g q. search rules)))
    (c.in_ok-sort_by_key.ensures.stable line (answers_always _ _ _ (λ f a r g q. search rules)))
