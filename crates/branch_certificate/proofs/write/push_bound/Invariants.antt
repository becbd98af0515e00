-- Behind the line of the bound stand those of the multipliers so far.
use Rattle.plan_num.proofs.Common.{◌≡◌, ◌++◌, ◌∷◌, length, map, pos, take, flat_map}
use Rattle.tables.proofs.Common.{tree_columns, line_text}
use Rattle.branch_certificate.specs.TreeTexts.{edge_id, row_with}
use Rattle.branch_certificate.proofs.write.push_bound.Given as goal

abbrev pub invariant-loop-i : goal.invariant-loop-i
invariant-loop-i l =
    l.bytes.items ≡ l.fn.bytes.items ++ flat_map (line_text tree_columns)
    (row_with 2 (pos (length l.multipliers)) 0 0
    ∷ map (λ multiplier. row_with 3 (edge_id l.problem multiplier.edge) 0 multiplier.amount)
    (take l.i l.multipliers))
