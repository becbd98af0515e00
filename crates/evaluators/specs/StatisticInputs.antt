-- The files of costs of lines and of the line concept, as the statistic reads them.
use Rattle.std.specs.Prelude.{ℤ, pos, ◌==◌, not, is_some, get_or, Bool, false, List, [], ◌∷◌, length, Option, Some}
use Rattle.std.specs.Prelude.{None}
use Rattle.std.specs.List.{find}
use Rattle.std.specs.Ordering.{int_eq}
use Rattle.tables.specs.declared.counted.Counted.TheVariants as counted
use Rattle.tables.specs.declared.file_id.FileId.TheVariants as file
use Rattle.tables.specs.declared.row_why.RowWhy.TheVariants as why
use Rattle.tables.specs.Columns.{pool_cost_columns, concept_columns}
use Rattle.tables.specs.Inputs.{Input, Limit, RowRule, own_id}
use Rattle.event_tables.specs.Cells.{number_in}
use Rattle.evaluators.specs.declared.rows.CostRow.{CostRow}
use Rattle.evaluators.specs.declared.rows.LineRow.{LineRow}
use Rattle.evaluators.specs.FirstRows.{firsts}

-- what the cells of a row stand for: the cost of a line in millionths, and the frequency of a line
abbrev pub cost_row : List ℤ → CostRow
cost_row cells = record { line = get_or cells 0 (pos 0); cost = number_in cells 2 }

abbrev pub line_row : List ℤ → LineRow
line_row cells = record { line = get_or cells 0 (pos 0); frequency = number_in cells 3 }

-- the file of costs of lines; which lines there are is not known here
abbrev pub cost_input : Input CostRow
cost_input = record {
  file = file.PoolCost;
  columns = pool_cost_columns;
  read = cost_row;
  limits = [];
  row_rules = own_id (λ row. row.line) ∷ [];
  table_rules = [];
}

-- the row of a line among costs, where it has one
abbrev pub cost_with : List CostRow → ℤ → Option CostRow
cost_with costs line = find (λ row. int_eq line row.line) costs

-- the first row of a line, where it has one
abbrev pub first_row : List LineRow → ℤ → Option LineRow
first_row rows line = find (λ row. int_eq line row.line) rows

-- the lines of rows: the first row of each
abbrev pub lines_of : List LineRow → List LineRow
lines_of rows = firsts (λ row. row.line) rows

-- the limit of the number of different lines
abbrev pub line_limit : Limit LineRow
line_limit = record { what = counted.Lines; most = 200; count = λ rows. length (lines_of rows) }

-- the rule that a line has a cost
abbrev pub known_line : List CostRow → RowRule LineRow
known_line costs =
    record { is_broken = λ _ row. not (is_some (cost_with costs row.line)); why = why.UnknownLine }

-- a row has another frequency than the first row of its line
abbrev pub differs : LineRow → Option LineRow → Bool
differs row None = false
differs row (Some first) = not (row.frequency == first.frequency)

-- the rule that a line has one frequency
abbrev pub one_frequency : RowRule LineRow
one_frequency = record {
  is_broken = λ before row. differs row (first_row before row.line);
  why = why.FrequencyDiffers;
}

-- the file of the line concept, over the costs of lines
abbrev pub concept_input : List CostRow → Input LineRow
concept_input costs = record {
  file = file.Concept;
  columns = concept_columns;
  read = line_row;
  limits = line_limit ∷ [];
  row_rules = known_line costs ∷ one_frequency ∷ [];
  table_rules = [];
}
