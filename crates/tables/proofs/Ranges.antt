-- The cells that are read are in the ranges of their columns.
use Rattle.plan_num.proofs.Common.{◌≡◌, ℕ, ℤ, pos, ◌+◌, ◌<◌, ◌≤ℤ◌, arith, List, [], ◌∷◌, ◌++◌}
use Rattle.plan_num.proofs.Common.{length, map, refl, eqb-true, Option, Some, None, Ok, Err}
use Rattle.plan_num.proofs.Common.{flat_map, All, ok_or, option_map, All-cons}
use Rattle.tables.specs.declared.column.ColumnKind.{ColumnKind}
use Rattle.tables.specs.declared.column.ColumnKind.TheVariants as kind
use Rattle.tables.specs.declared.row_why.RowWhy.TheVariants as why
use Rattle.tables.specs.Names.{table_words}
use Rattle.text_fields.specs.Rows.{Row}
use Rattle.tables.specs.Reading.{place_of, in_range, cell_of, cells_from, errors, values, row_whys, row_faults, table_row, faults, table_of}
use Rattle.tables.specs.Writing.{InColumn, InColumns}
use Rattle.plan_num.proofs.Lists.{unmapped}

-- nothing is put in front of nothing
pub front_none : {X : Type 0} (xs ys : List X) → xs ++ ys ≡ [] → xs ≡ []
front_none [] ys e = refl
front_none (x ∷ xs) ys e = cc

-- nor behind it
pub back_none : {X : Type 0} (xs ys : List X) → xs ++ ys ≡ [] → ys ≡ []
back_none [] ys e = e
back_none (x ∷ xs) ys e = cc

-- a number that is taken is in its range
taken : (min max : ℤ) (column : ℕ) (number : Option ℤ) (cell : ℤ) → in_range min max column number
    ≡ Ok cell → (min ≤ℤ cell) × (cell ≤ℤ max)
taken min max column None cell e = cc
taken min max column (Some number) cell e = grind arith

-- a word that is taken is in its table
named : (words : List (List ℕ)) (column : ℕ) (field : List ℕ) (cell : ℤ) (place : Option ℕ)
    → place_of words field ≡ place → ok_or (option_map pos place) (why.UnknownWord column) ≡ Ok cell
    → (at : ℕ) × (at < length words) × (cell ≡ pos at)
named words column field cell None is e = cc
named words column field cell (Some at) is e = grind arith

-- a cell that is made is in the range of its column
in_column : (column_kind : ColumnKind) (column : ℕ) (field : List ℕ) (cell : ℤ)
    → cell_of column_kind column field ≡ Ok cell → InColumn column_kind cell
unfolding cell_of
in_column (kind.Whole min max) column field cell e = taken min max column _ cell e
in_column (kind.Fixed min max) column field cell e = taken min max column _ cell e
in_column (kind.Word words) column field cell e = named (table_words words) column field cell _ refl e
in_column kind.Skip column field cell e = cc

-- so are the cells of a row
in_columns : (column : ℕ) (kinds : List ColumnKind) (fields : List (List ℕ)) → length fields
    ≡ length kinds → errors (cells_from column kinds fields) ≡ []
    → InColumns kinds (values (cells_from column kinds fields))
unfolding cells_from errors values
in_columns column [] [] same none = tt
in_columns column [] (field ∷ fields) same none = absurd (omega arith)
in_columns column (column_kind ∷ kinds) [] same none = absurd (omega arith)
in_columns column (column_kind ∷ kinds) (field ∷ fields) same none =
    elim (cell_of column_kind column field) as
    (λ r. cell_of column_kind column field ≡ r → errors (r ∷ cells_from (column + 1) kinds fields)
    ≡ [] → InColumns (column_kind ∷ kinds) (values (r ∷ cells_from (column + 1) kinds fields))) [
      | Ok cell ↦ λ is rest. grind (
        arith,
        in_column,
        in_columns (column + 1) kinds fields (omega
            arith) rest,
      )
      | Err error ↦ λ is rest. cc
    ] refl none

-- a row without a fault
pub row_in_columns : (kinds : List ColumnKind) (row : Row) → row_faults kinds row ≡ []
    → InColumns kinds (table_row kinds row).cells
unfolding row_whys
row_in_columns kinds row none = grind (arith, in_columns, eqb-true, unmapped)

rows_in_columns : (kinds : List ColumnKind) (some : List Row) → flat_map (row_faults kinds) some
    ≡ [] → All (λ row. InColumns kinds row.cells) (map (table_row kinds) some)
rows_in_columns kinds [] none = λ k d h. absurd (omega arith)
rows_in_columns kinds (row ∷ some) none =
    All-cons (λ made. InColumns kinds made.cells) (table_row kinds row) (map (table_row kinds) some)
    (row_in_columns kinds row (front_none _ _ none))
    (rows_in_columns kinds some (back_none (row_faults kinds row) _ none))

-- the cells of a text without a fault are in the ranges of their columns
pub table_in_columns : (kinds : List ColumnKind) (text : List ℕ) → faults kinds text ≡ []
    → All (λ row. InColumns kinds row.cells) (table_of kinds text)
unfolding faults table_of
table_in_columns kinds text none = grind (arith, rows_in_columns)
