-- The table of loads and of bounds of frequency.
use Rattle.std.specs.Prelude.{ℕ, pos, ◌≤◌, ◌≤ℤ◌, List, [], ◌∷◌, length, codes}
use Rattle.tables.specs.declared.file_id.FileId.TheVariants as file
use Rattle.giv_files.specs.declared.key.Key.TheVariants as key
use Rattle.giv_files.specs.declared.made.Made.{Made}
use Rattle.giv_files.specs.declared.setting.Setting.{Setting}
use Rattle.giv_files.specs.declared.stage.Stage.TheVariants as stage
use Rattle.tables.specs.Columns.{load_columns}
use Rattle.giv_files.specs.ReportLines.{count_text, report_line}
use Rattle.giv_files.specs.Settings.{amount}
use Rattle.tables.specs.Tables.{TableRow}
use Rattle.tables.specs.Writing.{table_text}
use Rattle.walks.specs.declared.edge.Edge.{Edge}
use Rattle.ptn_network.specs.declared.edge_load.EdgeLoad.{EdgeLoad}

-- the row of an edge: its id, its load and its bounds of frequency
abbrev pub load_row : Edge → EdgeLoad → TableRow
load_row edge load = record {
  number = 0;
  cells = edge.id ∷ load.load ∷ load.least ∷ load.most ∷ [];
}

-- the rows of edges, each with its load
abbrev pub load_rows : List Edge → List EdgeLoad → List TableRow
load_rows (edge ∷ edges) (load ∷ loads) = load_row edge load ∷ load_rows edges loads
load_rows _ _ = []

-- an edge whose id is one
pub record HasId (edge : Edge) : Type 0 where
  pub low : pos 1 ≤ℤ edge.id
  pub high : edge.id ≤ℤ pos 1000000000

-- settings of loads that are within their ranges
pub record HasSpread (settings : List Setting) : Type 0 where
  pub some : 1 ≤ amount settings key.GenPassengersPerVehicle
  pub few : amount settings key.GenPassengersPerVehicle ≤ 100000
  pub spread : amount settings key.LoadSpread ≤ 1000

-- the header of the table
abbrev pub load_header : List ℕ
load_header = codes "# edge-id; load; minimal-frequency; maximal-frequency"

-- what is made of the loads of edges: their table, and the line of the report
abbrev pub loads_made : List Edge → List EdgeLoad → Made
loads_made edges loads = record {
  files = record {
    file = file.Load;
    text = table_text load_header load_columns (load_rows edges loads);
  } ∷ [];
  report = report_line stage.Load (count_text (length edges) (codes "edges") ∷ []);
}
