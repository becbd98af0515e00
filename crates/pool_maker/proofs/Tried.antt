-- The definitions on small networks.
use Rattle.plan_num.proofs.Common.{◌≡◌, ℕ, List, [], ◌∷◌, ◌++◌, refl, pos, codes, map, ℤ}
use Rattle.std.specs.Fmt.{digits}
use Rattle.tables.specs.declared.file_id.FileId.TheVariants as file
use Rattle.tables.specs.declared.refusal.Refusal.TheVariants as refusal
use Rattle.tables.specs.declared.row_why.RowWhy.TheVariants as why
use Rattle.tables.specs.Inputs.{input_faults, row_faults}
use Rattle.tables.specs.Reading.{faults, table_of, cells_from, cell_of, errors, values, row_whys}
use Rattle.text_fields.specs.Rows.{rows, cleaned}
use Rattle.tables.specs.Writing.{cell_text, cell_texts, joined, table_text}
use Rattle.plan_num.specs.Number.{spelling_of, value_of, value_at, fixed_of, whole_of}
use Rattle.walks.specs.declared.edge.Edge.{Edge}
use Rattle.walks.specs.Paths.{path_within}
use Rattle.walks.specs.Walks.{least_of, least_sum, walks_within}
use Rattle.walks.proofs.Common.{NetworkParts}
use Rattle.ptn_network.specs.Networks.{network_faults, network_of, stops_of}
use Rattle.walks.specs.RisingIds.{by_id}
use Rattle.line_walks.specs.Pools.{line_faults, lines_of, pool_faults, pool_of, walk_from}
use Rattle.pool_maker.specs.PoolTexts.{pool_text, terminal_faults, pool_header}
use Rattle.terminal_lines.specs.TerminalPaths.{lines_between, pairs_of}

-- ---- a square: edges 1 and 2 lead from stop 1 over stop 2 to stop 4, and edges 3 and 4 over stop 3

abbrev stops : List ℕ
stops = codes "1; A; A; 0; 0\n2; B; B; 0; 0\n3; C; C; 0; 0\n4; D; D; 0; 0\n"

abbrev edges : List ℕ
edges = codes "1; 1; 2; 1; 1; 1\n2; 2; 4; 1; 1; 1\n3; 1; 3; 1; 1; 1\n4; 3; 4; 1; 1; 1\n"

abbrev edge : ℕ → ℕ → ℕ → ℕ → Edge
edge id left right length = record {
  id = pos id;
  left = left;
  right = right;
  length = pos length;
  lower = pos 1;
  upper = pos 1;
}

abbrev square : NetworkParts
square = record {
  stops = pos 1 ∷ pos 2 ∷ pos 3 ∷ pos 4 ∷ [];
  edges = edge 1 0 1 1000000 ∷ edge 2 1 3 1000000 ∷ edge 3 0 2 1000000 ∷ edge 4 2 3 1000000 ∷ [];
}

pairs : pairs_of (pos 4 ∷ pos 2 ∷ pos 1 ∷ []) ≡ (pos 1, pos 2) ∷ (pos 1, pos 4) ∷ (pos 2, pos 4)
    ∷ []
unfolding by_id
pairs = refl

-- ---- read again as a pool, with its comments

abbrev made : List ℕ
made = pool_header ++ codes "\n1; 1; 1\n1; 2; 2\n2; 1; 1\n2; 2; 3\n3; 1; 4\n# uncovered; 7\n"

pools_accepted :
    (pool_faults square made ≡ [])
    -- its lines
    × (map {B = ℤ × List ℕ} (λ line. (line.id, line.edges)) (pool_of square made)
    ≡ (pos 1, 0 ∷ 1 ∷ []) ∷ (pos 2, 0 ∷ 2 ∷ []) ∷ (pos 3, 3 ∷ []) ∷ [])
unfolding line_faults walk_from by_id input_faults row_faults faults table_of cells_from cell_of values errors
    row_whys rows cleaned spelling_of value_of value_at fixed_of whole_of lines_of
pools_accepted = (refl, refl)

-- ---- the shortest walk is not the one of fewest edges; ids of stops and of edges do not rise in the texts, and
-- no walk leads to stop 5

abbrev other_stops : List ℕ
other_stops = codes "3; x; x; 0; 0\n1; x; x; 0; 0\n2; x; x; 0; 0\n5; x; x; 0; 0\n"

abbrev other_edges : List ℕ
other_edges = codes "7; 3; 1; 5; 1; 1\n2; 1; 2; 1; 1; 1\n4; 2; 3; 1.5; 1; 1\n"

abbrev triangle : NetworkParts
triangle = record {
  stops = pos 1 ∷ pos 2 ∷ pos 3 ∷ pos 5 ∷ [];
  edges = edge 2 0 1 1000000 ∷ edge 4 1 2 1500000 ∷ edge 7 2 0 5000000 ∷ [];
}

networks_read : network_of stops edges ∷ network_of other_stops other_edges ∷ [] ≡ square ∷ triangle ∷ []
unfolding input_faults row_faults faults table_of cells_from cell_of values errors row_whys
    rows cleaned spelling_of value_of value_at fixed_of whole_of
    network_of network_faults stops_of by_id
networks_read = refl

-- ---- terminals of a network, each with the rows of the pool

abbrev pools : List (List ℕ × List ℕ)
pools = (
  pool_text square (pos 1 ∷ pos 4 ∷ []),
  codes "\n1; 1; 1\n1; 2; 2\n# uncovered; 3\n# uncovered; 4\n",
)
    -- the paths of the other two pairs lie in that of 1 and 4
    ∷ (
      pool_text square (pos 4 ∷ pos 2 ∷ pos 1 ∷ []),
      codes "\n1; 1; 1\n1; 2; 2\n# uncovered; 3\n# uncovered; 4\n",
    )
    ∷ (
      pool_text square (pos 4 ∷ pos 3 ∷ []),
      codes "\n1; 1; 4\n# uncovered; 1\n# uncovered; 2\n# uncovered; 3\n",
    )
    ∷ (
      pool_text square (pos 1 ∷ pos 2 ∷ pos 3 ∷ pos 4 ∷ []),
      codes "\n1; 1; 1\n1; 2; 2\n2; 1; 1\n2; 2; 3\n3; 1; 4\n",
    )
    ∷ (
      pool_text triangle (pos 3 ∷ pos 1 ∷ pos 5 ∷ []),
      codes "\n1; 1; 2\n1; 2; 4\n# uncovered; 7\n",
    )
    -- a network of texts; two stops and no edge: the header alone
    ∷ (
      pool_text (network_of stops edges) (pos 1 ∷ pos 4 ∷ []),
      codes "\n1; 1; 1\n1; 2; 2\n# uncovered; 3\n# uncovered; 4\n",
    )
    ∷ (
      pool_text (network_of (codes "1; A; A; 0; 0\n2; B; B; 0; 0\n") []) (pos 1 ∷ pos 2 ∷ []),
      codes "\n",
    ) ∷ []

each_has_these_rows : map (λ at. at.0) pools ≡ map (λ at. pool_header ++ at.1) pools
unfolding digits pool_text cell_text cell_texts joined table_text
    input_faults row_faults faults table_of cells_from cell_of values errors row_whys
    rows cleaned spelling_of value_of value_at fixed_of whole_of
    network_of network_faults stops_of by_id lines_between path_within least_sum walks_within
    least_of
each_has_these_rows = refl

-- ---- what is refused

refused : terminal_faults stops edges (pos 1 ∷ pos 4 ∷ [])
    ∷ terminal_faults stops edges (pos 1 ∷ pos 9 ∷ [])
    ∷ terminal_faults stops (codes "1; 1; 1; 1; 1; 1\n") (pos 1 ∷ pos 9 ∷ []) ∷ []
    ≡ [] ∷ (refusal.BadRow file.Stop 0 why.UnknownStop ∷ [])
    ∷ (refusal.BadRow file.Edge 1 why.LoopEdge ∷ refusal.BadRow file.Stop 0 why.UnknownStop ∷ []) ∷ []
unfolding terminal_faults input_faults row_faults faults table_of cells_from cell_of values errors
    row_whys
    rows cleaned spelling_of value_of value_at fixed_of whole_of
    network_of network_faults stops_of by_id
refused = refl
