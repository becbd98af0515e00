-- The files of a demo dataset.
use Rattle.std.specs.Prelude.{ℕ, List, [], ◌∷◌, codes}
use Rattle.std.specs.List.{flat_map}
use Rattle.std.specs.FinMap as map
use Rattle.plan_files.specs.declared.write.Write.{Write}
use Rattle.plan_files.specs.declared.write.Write.TheVariants.{Put}
use Rattle.plan_files.specs.Folder.{Folder}
use Rattle.demo_dataset.specs.Grid.{one_to, stop_id, edges_of, lines_of}
use Rattle.demo_dataset.specs.Rows.{stop_row, edge_row, demand_rows, line_rows}

-- the stops of one row, from left to right
abbrev pub stops_in : (size row : ℕ) → List ℕ
stops_in size row = flat_map (λ column. stop_row (stop_id size row column)) (one_to size)

-- the text of all stops, row by row
abbrev pub stop_text : (size : ℕ) → List ℕ
stop_text size = flat_map (stops_in size) (one_to size)

-- the text of all edges
abbrev pub edge_text : (size : ℕ) → List ℕ
edge_text size = flat_map edge_row (edges_of size)

-- the text of all lines
abbrev pub pool_text : (size : ℕ) → List ℕ
pool_text size = flat_map line_rows (lines_of size)

-- the text of all demand
abbrev pub demand_text : (size : ℕ) → List ℕ
demand_text size = flat_map demand_rows (edges_of size)

-- the files of a demo dataset by their names
abbrev pub demo_folder : (size : ℕ) → Folder
demo_folder size =
    let config = map.insert map.empty (codes "basis/Config.cnf") [] in
    let stops = map.insert config (codes "basis/Stop.giv") (stop_text size) in
    let edges = map.insert stops (codes "basis/Edge.giv") (edge_text size) in
    let lines = map.insert edges (codes "basis/Pool.giv") (pool_text size) in
    map.insert lines (codes "basis/OD.giv") (demand_text size)

-- the writes that make these files where there are none, in order
abbrev pub demo_writes : (size : ℕ) → List Write
demo_writes size =
    Put (codes "basis/Config.cnf") [] ∷ Put (codes "basis/Stop.giv") (stop_text size)
    ∷ Put (codes "basis/Edge.giv") (edge_text size) ∷ Put (codes "basis/Pool.giv") (pool_text size)
    ∷ Put (codes "basis/OD.giv") (demand_text size) ∷ []
