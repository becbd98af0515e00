-- The definitions on small datasets.
use Rattle.plan_num.proofs.Common.{◌≡◌, ℕ, List, [], ◌∷◌, ◌++◌, map, refl, pos, codes, Result, Ok}
use Rattle.plan_num.proofs.Common.{Err}
use Rattle.std.specs.Fmt.{digits}
use Rattle.tables.specs.declared.counted.Counted.TheVariants as counted
use Rattle.tables.specs.declared.file_id.FileId.TheVariants as file
use Rattle.giv_files.specs.declared.key.Key.TheVariants as key
use Rattle.giv_files.specs.declared.made.Made.{Made}
use Rattle.giv_files.proofs.Common.{BundleParts}
use Rattle.tables.specs.declared.row_why.RowWhy.TheVariants as why
use Rattle.tables.specs.declared.refusal.Refusal.{Refusal}
use Rattle.tables.specs.Inputs.{input_faults, row_faults}
use Rattle.tables.specs.Reading.{faults, table_of, cells_from, cell_of, errors, values, row_whys}
use Rattle.tables.specs.Writing.{cell_text, cell_texts, joined, table_text}
use Rattle.tables.specs.declared.refusal.Refusal.TheVariants as refusal
use Rattle.giv_files.specs.declared.stage.Stage.TheVariants as stage
use Rattle.text_fields.specs.Rows.{rows, cleaned}
use Rattle.plan_num.specs.Number.{spelling_of, value_of, value_at, fixed_of, whole_of}
use Rattle.plan_num.specs.Print.{digits_at}
use Rattle.ptn_network.specs.Loads.{loads_of}
use Rattle.walks.specs.declared.edge.Edge.{Edge}
use Rattle.walks.specs.RisingIds.{by_id}
use Rattle.walks.proofs.Common.{NetworkParts, path}
use Rattle.ptn_network.specs.Networks.{stops_of, network_of, network_faults}
use Rattle.walks.specs.Walks.{walks_within, least_of, least_sum}
use Rattle.walks.specs.Paths.{path_within}
use Rattle.demand_load.specs.LoadTables.{load_header}
use Rattle.demand_load.specs.LoadStage.{loads_by, text_faults, load_stage}

abbrev edge : ℕ → ℕ → ℕ → ℕ → Edge
edge id left right length = record {
  id = pos id;
  left = left;
  right = right;
  length = pos length;
  lower = pos 1;
  upper = pos 1;
}

-- two ways from stop 0 to stop 3, equally long
abbrev square : NetworkParts
square = record {
  stops = pos 1 ∷ pos 2 ∷ pos 3 ∷ pos 4 ∷ [];
  edges = edge 1 0 1 1000000 ∷ edge 2 1 3 1000000 ∷ edge 3 0 2 1000000 ∷ edge 4 2 3 1000000 ∷ [];
}

-- the same ways, where the first edges of the one have greater ids than those of the other, but its
-- last one a lesser id
abbrev turned : NetworkParts
turned = record {
  stops = pos 1 ∷ pos 2 ∷ pos 3 ∷ pos 4 ∷ [];
  edges = edge 1 1 0 1000000 ∷ edge 2 3 2 1000000 ∷ edge 3 2 0 1000000 ∷ edge 4 3 1 1000000
      ∷ edge 5 1 0 1000000 ∷ [];
}

-- the way there and the way back differ, since the least last edge decides; no way from a stop to itself
ways_found : path square 0 3 ∷ path square 3 0 ∷ path square 2 2 ∷ path turned 0 3 ∷ []
    ≡ (0 ∷ 1 ∷ []) ∷ (1 ∷ 0 ∷ []) ∷ [] ∷ (2 ∷ 1 ∷ []) ∷ []
unfolding path_within least_sum walks_within least_of
ways_found = refl

-- ---- the stage

abbrev bundle : ℕ → List (List ℕ) → BundleParts
bundle source inputs = record {
  stage = stage.Load;
  settings = record { key = key.LoadSource; value = pos source }
      ∷ record { key = key.GenPassengersPerVehicle; value = pos 70 }
      ∷ record { key = key.LoadSpread; value = pos 3 } ∷ [];
  inputs = inputs;
}

abbrev four : List ℕ
four = codes "1;;;;;\n2;;;;;\n3;;;;;\n4;;;;;\n"

abbrev ways : List ℕ
ways = codes "1; 1; 2; 1; 1; 1\n2; 2; 4; 1; 1; 1\n3; 1; 3; 1; 1; 1\n4; 3; 4; 1; 1; 1\n"

abbrev made : List ℕ → List ℕ → Made
made table report = record {
  files = record { file = file.Load; text = load_header ++ 10 ∷ table } ∷ [];
  report = report;
}

-- two stops, and two edges between them
abbrev two : List ℕ
two = codes "1;;;;;\n2;;;;;\n"

abbrev pair : List ℕ
pair = codes "7; 1; 2; 1; 1; 1\n5; 1; 2; 1; 1; 1\n"

-- bundles by demand and by given loads, each with what the stage gives
abbrev staged : List (Result Made Refusal × Result Made Refusal)
staged = (
  load_stage (bundle 0 (four ∷ ways ∷ codes "1; 4; 150.5\n" ∷ [])),
  Ok (made (codes "1; 150.5; 3; 6\n2; 150.5; 3; 6\n3; 0; 0; 3\n4; 0; 0; 3\n") (codes "load: 4 edges")),
) ∷ (
  load_stage (bundle 0 (four ∷ ways ∷ codes "1; 4; 70000\n" ∷ [])),
  Err (refusal.TooMany counted.Frequency 1003),
) ∷ (
  load_stage (bundle 0 (two ∷ [] ∷ codes "1; 1; 5\n1; 2; 0\n1; 2; 1\n" ∷ [])),
  Err (refusal.BadRow file.Od 3 why.NoPath),
) ∷ (
  load_stage (bundle 1 (two ∷ pair ∷ codes "7; 140; 2; 5\n5; 0.25; 1; 1\n" ∷ [])),
  Ok (made (codes "5; 0.25; 1; 1\n7; 140; 2; 5\n") (codes "load: 2 edges")),
) ∷ (
  load_stage (bundle 1 (two ∷ pair ∷ codes "7; 140; 2; 5\n" ∷ [])),
  Err (refusal.BadRow file.LoadGiven 0 why.MissingEdge),
) ∷ []

each_stage_gives : map (λ at. at.0) staged ≡ map (λ at. at.1) staged
unfolding digits digits_at load_stage loads_by loads_of text_faults path_within least_sum
    walks_within least_of network_of network_faults stops_of input_faults row_faults faults by_id
    table_of cells_from cell_of values errors row_whys rows cleaned spelling_of value_of value_at
    fixed_of whole_of cell_text cell_texts joined table_text
each_stage_gives = refl
