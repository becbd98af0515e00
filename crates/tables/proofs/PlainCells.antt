-- Cells of fields that are plain.
use Rattle.plan_num.proofs.Common.{◌≡◌, ◌≤ℤ◌, ℕ, ℤ, List, Ok, Option, None, Some, pos, refl, sym}
use Rattle.plan_num.proofs.Common.{IfSome}
use Rattle.plan_num.specs.Number.{fixed_of, whole_of}
use Rattle.tables.specs.declared.words.WordTable.{WordTable}
use Rattle.tables.specs.declared.column.ColumnKind.TheVariants as kind
use Rattle.tables.specs.Names.{table_words}
use Rattle.tables.specs.Reading.{cell_of, place_of}
use Rattle.text_fields.specs.Rows.{without_blanks, without_quotes}
use Rattle.tables.proofs.CellTexts.{range_back, word_found}
use Rattle.tables.proofs.PlainFields.{cell_field}

-- a number within its range is its cell
pub whole_cell : (min max : ℤ) (field : List ℕ) (column : ℕ) (number cell : Option ℤ)
    → IfSome cell (λ c. number ≡ Some c) → IfSome cell (λ c. min ≤ℤ c) → IfSome cell (λ c. c ≤ℤ max)
    → IfSome number (λ n. whole_of field ≡ Some n)
    → IfSome cell (λ c. cell_of (kind.Whole min max) column field ≡ Ok c)
unfolding cell_of
whole_cell min max field column number None same low high told = tt
whole_cell min max field column number (Some c) same low high told =
    rw (rw same at told) (range_back min max c column low high)

pub fixed_cell : (min max : ℤ) (field : List ℕ) (column : ℕ) (number cell : Option ℤ)
    → IfSome cell (λ c. number ≡ Some c) → IfSome cell (λ c. min ≤ℤ c) → IfSome cell (λ c. c ≤ℤ max)
    → IfSome number (λ n. fixed_of field ≡ Some n)
    → IfSome cell (λ c. cell_of (kind.Fixed min max) column field ≡ Ok c)
unfolding cell_of
fixed_cell min max field column number None same low high told = tt
fixed_cell min max field column number (Some c) same low high told =
    rw (rw same at told) (range_back min max c column low high)

-- a word behind a space or none is found at its place
pub word_cell : (words : WordTable) (piece front : List ℕ) (column place : ℕ)
    → without_blanks front ≡ without_blanks piece → Some place ≡ place_of (table_words words) front
    → cell_of (kind.Word words) column (without_quotes (without_blanks piece)) ≡ Ok (pos place)
unfolding cell_of
word_cell words piece front column place same found =
    rw (cell_field piece front same (word_found words front place found), sym found) refl

pub skipped_cell : (column : ℕ) (field : List ℕ) → cell_of kind.Skip column field ≡ Ok (pos 0)
unfolding cell_of
skipped_cell column field = refl
