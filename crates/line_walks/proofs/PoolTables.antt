-- The pool of a table, from the lines of its rows.
use Rattle.plan_num.proofs.Common.{arith, ℕ, sym, ◌≡◌, refl, ℤ, ◌≤◌, List, [], length, map, subst}
use Rattle.plan_num.proofs.Common.{All, All-weaker, map-map}
use Rattle.walks.specs.declared.edge.Edge.{Edge}
use Rattle.walks.proofs.Common.{NetworkParts, rising}
use Rattle.tables.specs.declared.refusal.StageFault.{StageFault}
use Rattle.tables.proofs.Common.{TableRow, Input, Refuses, cell_faults, records, limit_faults}
use Rattle.tables.proofs.Common.{table_row_faults, table_faults, refused_cells, faults_of_table}
use Rattle.tables.proofs.Common.{limit_kept, no_faults, table_of}
use Rattle.line_walks.specs.declared.line_file.LineFile.{LineFile}
use Rattle.line_walks.specs.declared.line_row.LineRow.{LineRow}
use Rattle.line_walks.specs.Pools.{line_limit, LineParts, line_input, lines_over, lines_of, line_faults, file_of, columns_of, IsLine, AreLines}
use Rattle.line_walks.specs.LinesSoFar.{LineEdges, line_so_far, whole_line, lines_in}

module _ (kind : LineFile) (edges : List Edge) (table : List TableRow) (ids : List ℤ)
    (are : ids ≡ rising (lines_in table)) where
  -- as many lines as there may be
  within : length ids ≤ 200 → limit_faults (line_input kind edges).limits (records (line_input kind edges) table) ≡ []
  within h = limit_kept line_limit [] (records (line_input kind edges) table)
      (subst (λ some. length some ≤ 200) are h) refl

  -- a table whose rows break no rule
  pub table_kept : length ids ≤ 200 → table_row_faults (line_input kind edges) table ≡ []
      → table_faults (line_input kind edges) table ≡ []
  table_kept h by = no_faults (line_input kind edges) table (within h) by refl

  -- the whole lines of the ids
  pub lines_are : (lines : List LineEdges) (whole : List LineParts) → lines
      ≡ map (line_so_far edges (records (line_input kind edges) table)) ids → whole
      ≡ map whole_line lines → whole ≡ lines_over edges (records (line_input kind edges) table)
  lines_are lines whole told is = grind (arith, map-map)

-- ---- the lines of a text

module _ (kind : LineFile) (network : NetworkParts) (text : List ℕ) where
  abbrev input : Input LineRow
  input = line_input kind network.edges

  -- a text that is refused by a cell
  pub refused_text : (fault : StageFault)
      → Refuses (cell_faults (file_of kind) (columns_of kind) text) fault
      → Refuses (line_faults kind network text) fault
  unfolding line_faults
  refused_text fault by = refused_cells input text fault by

  module _ (table : List TableRow) (none : cell_faults (file_of kind) (columns_of kind) text ≡ [])
      (is : table ≡ table_of (columns_of kind) text) where
    -- a text that is refused by its table
    pub refused_table : (fault : StageFault) → Refuses (table_faults input table) fault
        → Refuses (line_faults kind network text) fault
    unfolding line_faults
    refused_table fault by = subst (λ all. Refuses all fault) (faults_of_table input text table none is) by

    -- the lines of its table are those of the text
    pub lines_read : (lines : List LineParts) → (table_faults input table ≡ [])
        × (lines ≡ lines_over network.edges (records input table))
        → (line_faults kind network text ≡ []) × (lines ≡ lines_of kind network text)
    unfolding line_faults lines_of
    lines_read lines read = grind (arith, faults_of_table)

  -- their frequencies
  pub served_lines : (lines : List LineParts) → lines ≡ lines_of kind network text
      → AreLines network.edges (lines_of kind network text)
      → All (λ line. line.frequency ≤ 1000) lines
  served_lines lines same are = subst (All (λ (line : LineParts). line.frequency ≤ 1000)) (sym same)
      (All-weaker (IsLine network.edges) (λ line. line.frequency ≤ 1000)
      (λ line is. is.frequency) _ are.each)
