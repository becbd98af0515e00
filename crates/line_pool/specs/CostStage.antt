-- The cost of each line, and the stage that writes them.
use Rattle.std.specs.Prelude.{ℕ, pos, ◌+◌, ◌*◌, ◌/◌, List, [], ◌∷◌, ◌++◌, length, map, codes, Result}
use Rattle.tables.specs.declared.file_id.FileId.TheVariants as file
use Rattle.giv_files.specs.declared.key.Key.TheVariants as key
use Rattle.giv_files.specs.declared.made.Made.{Made}
use Rattle.tables.specs.declared.refusal.Refusal.{Refusal}
use Rattle.giv_files.specs.declared.setting.Setting.{Setting}
use Rattle.giv_files.specs.declared.stage.Stage.TheVariants as stage
use Rattle.tables.specs.Columns.{pool_cost_columns}
use Rattle.giv_files.specs.ReportLines.{count_text, report_line}
use Rattle.giv_files.specs.Settings.{BundleParts, amount}
use Rattle.giv_files.specs.StageCalls.{input_text, unless_fault}
use Rattle.tables.specs.Tables.{TableRow}
use Rattle.tables.specs.Writing.{table_text}
use Rattle.walks.specs.declared.edge.Edge.{Edge}
use Rattle.ptn_network.specs.Networks.{network_faults}
pub use Rattle.ptn_network.specs.Networks.{network_in}
use Rattle.line_walks.specs.LineLengths.{line_length}
use Rattle.line_walks.specs.Pools.{LineParts, pool_of, pool_faults}

-- the cost of a line in millionths: a fixed part, a part by its length, rounded down to a
-- millionth, and a part for each edge
abbrev pub line_cost : List Setting → List Edge → LineParts → ℕ
line_cost settings edges line =
    amount settings key.LpoolCostsFixed + amount settings key.LpoolCostsLength * line_length edges
    line / 1000000 + amount settings key.LpoolCostsEdges * length line.edges

-- the row of a line: its id, its length and its cost
abbrev pub cost_row : List Setting → List Edge → LineParts → TableRow
cost_row settings edges line = record {
  number = 0;
  cells = line.id ∷ pos
      (line_length edges line) ∷ pos (line_cost settings edges line) ∷ [];
}

abbrev pub cost_header : List ℕ
cost_header = codes "# line-id; length; cost"

-- what is made of the lines of a pool: the table of their costs, and the line of the report
abbrev pub costs_made : List Setting → List Edge → List LineParts → Made
costs_made settings edges lines = record {
  files = record {
    file = file.PoolCost;
    text = table_text cost_header pool_cost_columns
        (map (cost_row settings edges) lines);
  } ∷ [];
  report = report_line stage.Cost (count_text (length lines) (codes "lines") ∷ []);
}

-- every fault of a bundle, in the order of its inputs: the texts of stops, of edges and of the pool
abbrev pub cost_faults : BundleParts → List Refusal
cost_faults bundle = network_faults (input_text bundle 0) (input_text bundle 1)
    ++ pool_faults (network_in bundle.inputs) (input_text bundle 2)

-- the stage: from settings and input texts to what is made, or the first fault
unfoldable pub cost_stage : BundleParts → Result Made Refusal
cost_stage bundle = unless_fault (cost_faults bundle)
    (costs_made bundle.settings (network_in bundle.inputs).edges
    (pool_of (network_in bundle.inputs) (input_text bundle 2)))
