-- The comments of edges that no line has.
use Rattle.plan_num.proofs.Common.{◌≡◌, ℕ, ℤ, ◌+◌, false, List, [], ◌∷◌, ◌++◌, codes, append_assoc}
use Rattle.plan_num.proofs.Common.{append-nil, ap, sym, ◌∙◌, arith, map-id, signed_decimal}
use Rattle.plan_num.proofs.Common.{flat_map, range_with_len, flat_map-append, filter-append}
use Rattle.plan_num.proofs.Common.{map-range_with_len_more}
use Rattle.walks.proofs.Common.{NetworkParts}
use Rattle.pool_maker.specs.PoolTexts.{edge_id, uncovered_line}
use Rattle.terminal_lines.specs.TerminalPaths.{is_covered, uncovered_among}

-- those of edges one behind another are those of each of them
pub comments_both : (comment : ℕ → List ℕ) (lines : List (List ℕ)) (some more : List ℕ)
    → flat_map comment (uncovered_among lines (some ++ more))
    ≡ flat_map comment (uncovered_among lines some) ++ flat_map comment (uncovered_among lines more)
comments_both comment lines some more = grind (arith, filter-append, flat_map-append)

-- one index more
pub one_edge_more : (edge : ℕ) → range_with_len 0 (edge + 1) ≡ range_with_len 0 edge ++ edge ∷ []
one_edge_more edge =
    sym (map-id (range_with_len 0 (edge + 1)))
    ∙ map-range_with_len_more (λ at. at) 0 edge edge (omega arith)
    ∙ ap (λ some. some ++ edge ∷ []) (map-id (range_with_len 0 edge))

-- the comment of an edge that no line has
pub comment_put : (network : NetworkParts) (lines : List (List ℕ)) (edge : ℕ)
    (old new comment : List ℕ) (id : ℤ) → is_covered lines edge ≡ false → id ≡ edge_id network edge
    → comment ≡ codes "# uncovered; " ++ (signed_decimal id ++ codes "\n") → new ≡ old ++ comment
    → new ≡ old ++ flat_map (uncovered_line network) (uncovered_among lines (edge ∷ []))
comment_put network lines edge old new comment id none is told put =
    grind (arith, append_assoc, append-nil)
