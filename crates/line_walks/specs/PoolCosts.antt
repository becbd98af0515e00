-- The file of the costs of lines, and its rules.
use Rattle.std.specs.Prelude.{ℤ, pos, not, List, [], ◌∷◌, ◌++◌, get_or}
use Rattle.std.specs.List.{list_any}
use Rattle.std.specs.Ordering.{int_eq}
use Rattle.tables.specs.declared.file_id.FileId.TheVariants as file
use Rattle.tables.specs.declared.row_why.RowWhy.TheVariants as why
use Rattle.tables.specs.Columns.{pool_cost_columns}
use Rattle.tables.specs.Inputs.{Input, RowRule, TableRule, own_id, whole_rule}
pub use Rattle.line_walks.specs.declared.cost_row.CostRow.{CostRow}
use Rattle.line_walks.specs.Pools.{LineParts}

-- a row: a line, its length and its cost
abbrev pub cost_row_of : List ℤ → CostRow
cost_row_of cells = record {
  line = get_or cells 0 (pos 0);
  length = get_or cells 1 (pos 0);
  cost = get_or cells 2 (pos 0);
}

-- the rule that the line of a row is one of the pool
abbrev pub known_line : List LineParts → RowRule CostRow
known_line lines = record {
  is_broken = λ _ row. not (list_any (λ line. int_eq row.line line.id) lines);
  why = why.UnknownLine;
}

-- the rule that each line of the pool has a row
abbrev pub all_costed : List LineParts → TableRule CostRow
all_costed lines =
    whole_rule (λ rows. list_any (λ line. not (list_any (λ row. int_eq line.id row.line) rows)) lines)
    why.MissingLine

-- a file of costs, whose lines have a row each, with rules on which lines these are
abbrev pub cost_input : List (RowRule CostRow) → List (TableRule CostRow) → Input CostRow
cost_input line_rules table_rules = record {
  file = file.PoolCost;
  columns = pool_cost_columns;
  read = cost_row_of;
  limits = [];
  row_rules = line_rules ++ own_id (λ row. row.line) ∷ [];
  table_rules = table_rules;
}

-- a file of the costs of the lines of a pool
abbrev pub pool_cost_input : List LineParts → Input CostRow
pool_cost_input lines = cost_input (known_line lines ∷ []) (all_costed lines ∷ [])
