-- The definitions on a small dataset.
use Rattle.plan_num.proofs.Common.{◌≡◌, ℕ, List, [], ◌∷◌, refl, pos, codes, Ok, Err}
use Rattle.tables.specs.declared.file_id.FileId.TheVariants as file
use Rattle.giv_files.specs.declared.key.Key.TheVariants as key
use Rattle.giv_files.specs.declared.made.Made.{Made}
use Rattle.giv_files.proofs.Common.{BundleParts}
use Rattle.tables.specs.declared.row_why.RowWhy.TheVariants as why
use Rattle.tables.specs.declared.refusal.Refusal.TheVariants as refusal
use Rattle.giv_files.specs.declared.stage.Stage.TheVariants as stage
use Rattle.tables.specs.Inputs.{input_faults, row_faults}
use Rattle.tables.specs.Reading.{faults, errors, row_whys}
use Rattle.tables.specs.Writing.{cell_text, cell_texts, joined, table_text}
use Rattle.tables.specs.Reading.{table_of, cells_from, cell_of, values}
use Rattle.text_fields.specs.Rows.{rows, cleaned}
use Rattle.plan_num.specs.Number.{spelling_of, value_of, value_at, fixed_of, whole_of}
use Rattle.plan_num.specs.Print.{digits_at}
use Rattle.std.specs.Fmt.{digits}
use Rattle.walks.specs.declared.edge.Edge.{Edge}
use Rattle.walks.proofs.Common.{NetworkParts}
use Rattle.ptn_network.specs.Networks.{stops_of, network_of, network_faults}
use Rattle.walks.specs.RisingIds.{by_id}
use Rattle.line_walks.specs.Pools.{walk_from, lines_of, line_faults, pool_of, pool_faults}
use Rattle.line_pool.specs.CostStage.{cost_stage}

abbrev edge : ℕ → ℕ → ℕ → ℕ → Edge
edge id left right length = record { id = pos id; left = left; right = right; length = pos length; lower = pos 4; upper = pos 5 }

-- stops 0 to 2 in a row, the last two joined twice, and two stops apart
abbrev network : NetworkParts
network = record {
  stops = pos 1 ∷ pos 2 ∷ pos 3 ∷ pos 4 ∷ pos 5 ∷ [];
  edges = edge 1 0 1 2000000 ∷ edge 2 1 2 3000000 ∷ edge 3 3 4 1000000 ∷ edge 7 2 1 1500000 ∷ [];
}

lines_read :
    -- a line over two edges, one over parallel edges, one of one edge, and one that starts at the right
    -- stop of its first edge
    (pool_of network
    (codes "# pool\n9; 1; 2\n3; 1; 1\n3; 2; 2\n9; 2; 7\n1; 1; 3\n4; 1; 2\n4; 2; 1\n") ≡ record { id = pos 1; edges = 2 ∷ []; stops = 3 ∷ 4 ∷ []; frequency = 0 }
    ∷ record { id = pos 3; edges = 0 ∷ 1 ∷ []; stops = 0 ∷ 1 ∷ 2 ∷ []; frequency = 0 }
    ∷ record { id = pos 4; edges = 1 ∷ 0 ∷ []; stops = 2 ∷ 1 ∷ 0 ∷ []; frequency = 0 }
    ∷ record { id = pos 9; edges = 1 ∷ 3 ∷ []; stops = 1 ∷ 2 ∷ 1 ∷ []; frequency = 0 }
    ∷ [])
    × (pool_faults network (codes "# pool\n9; 1; 2\n3; 1; 1\n3; 2; 2\n9; 2; 7\n1; 1; 3\n4; 1; 2\n4; 2; 1\n") ≡ [])
    -- rows that break each rule
    × (pool_faults network (codes "1; 1; 1\n1; 3; 2\n2; 1; 8\n3; 1; 1\n3; 2; 1\n4; 1; 1\n4; 2; 3\n") ≡ refusal.BadRow file.Pool 2 why.OrderGap
    ∷ refusal.BadRow file.Pool 3 why.UnknownEdge
    ∷ refusal.BadRow file.Pool 5 why.RepeatedEdge
    ∷ refusal.BadRow file.Pool 7 why.BrokenLine
    ∷ [])
unfolding lines_of by_id walk_from table_of cells_from cell_of values rows cleaned spelling_of value_of
    value_at fixed_of whole_of line_faults input_faults row_faults faults errors row_whys
lines_read = (refl, refl, refl)

-- ---- the stage

-- two edges in a row, with the values of the three keys and the text of a pool
abbrev bundle : ℕ → ℕ → ℕ → List ℕ → BundleParts
bundle fixed by_length by_edge pool = record {
  stage = stage.Cost;
  settings = record { key = key.LpoolCostsFixed; value = pos fixed } ∷ record { key = key.LpoolCostsLength; value = pos by_length } ∷ record { key = key.LpoolCostsEdges; value = pos by_edge } ∷ [];
  inputs = codes "1; A; A; 0; 0\n2; B; B; 0; 0\n3; C; C; 0; 0\n" ∷ codes "1; 1; 2; 2; 4; 5\n2; 2; 3; 3; 6; 6\n" ∷ pool ∷ [];
}

-- what is made where the table is a text
abbrev made : List ℕ → List ℕ → Made
made table report = record { files = record { file = file.PoolCost; text = table } ∷ []; report = report }

costs_made_of_texts :
    (cost_stage (bundle 10000000 1000000 0 (codes "1; 1; 1\n1; 2; 2\n2; 1; 1\n")) ≡ Ok (made (codes "# line-id; length; cost\n1; 5; 15\n2; 2; 12\n") (codes "cost: 2 lines")))
    × (cost_stage (bundle 10000000 500000 2000000 (codes "1; 1; 1\n1; 2; 2\n2; 1; 1\n")) ≡ Ok (made (codes "# line-id; length; cost\n1; 5; 16.5\n2; 2; 13\n") (codes "cost: 2 lines")))
    × (cost_stage (bundle 10000000 1000000 0 []) ≡ Ok (made (codes "# line-id; length; cost\n") (codes "cost: 0 lines")))
    -- rows count with the comments before them
    × (cost_stage (bundle 10000000 1000000 0 (codes "# pool\n1; 1; 1\n1; 3; 2\n")) ≡ Err (refusal.BadRow file.Pool 3 why.OrderGap))
unfolding digits cost_stage lines_of line_faults network_of network_faults stops_of input_faults row_faults
    faults by_id walk_from table_of cells_from cell_of values errors row_whys rows cleaned spelling_of
    value_of value_at fixed_of whole_of cell_text cell_texts joined table_text digits_at
costs_made_of_texts = (refl, refl, refl, refl)
