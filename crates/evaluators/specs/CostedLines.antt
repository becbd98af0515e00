-- Inner words: lines with their costs.
use Rattle.std.specs.Prelude.{ℕ, ◌*◌, ◌==◌, not, is_some, if◌then◌else◌, List, Option, Some, None, option_map}
use Rattle.std.specs.Prelude.{unwrap_or}
use Rattle.tables.specs.declared.row_why.RowWhy.{RowWhy}
use Rattle.tables.specs.declared.row_why.RowWhy.TheVariants as why
use Rattle.evaluators.specs.declared.costed_line.CostedLine.{CostedLine}
use Rattle.evaluators.specs.declared.rows.CostRow.{CostRow}
use Rattle.evaluators.specs.declared.rows.LineRow.{LineRow}
use Rattle.evaluators.specs.StatisticInputs.{cost_with}

-- a line with its cost
abbrev pub costed : List CostRow → LineRow → CostedLine
costed costs row = record {
  line = row.line;
  frequency = row.frequency;
  cost = option_map (λ row. row.cost) (cost_with costs row.line);
}

-- why a row of this frequency is refused, if it is
abbrev pub broken_by : CostedLine → ℕ → Option RowWhy
broken_by line frequency =
    if not (is_some line.cost) then Some why.UnknownLine
    else (if not (frequency == line.frequency) then Some why.FrequencyDiffers else None)

-- what the runs of a line cost
abbrev pub runs_cost : CostedLine → ℕ
runs_cost line = unwrap_or line.cost 0 * line.frequency
