-- The texts of cells, and that they are read back.
use Rattle.plan_num.proofs.Common.{◌≡◌, ℕ, ◌+◌, ◌<◌, ◌≤◌, ◌&&◌, ltb, ne_eqb, zero-add, zero, suc}
use Rattle.plan_num.proofs.Common.{List, [], ◌∷◌, length, get_or, refl, ap, ◌∙◌, arith, ℤ, pos}
use Rattle.plan_num.proofs.Common.{negsuc, neg_ℤ, sym, subst, ◌≤ℤ◌, Bool, true, false, T, Some, Ok}
use Rattle.plan_num.proofs.Common.{All, length-append, int_le, list_all, bytes_eq, bytes_eq-Decides}
use Rattle.plan_num.proofs.Common.{position-Some, signed_decimal, ints, ltb-true, and_parts}
use Rattle.plan_num.proofs.Common.{nat_tests, All-head, All-tail}
use Rattle.std.proofs.lemmas.Fmt.{decimal_nonempty}
use Rattle.plan_num.specs.Number.{is_number_byte}
use Rattle.plan_num.specs.Print.{fixed_text}
use Rattle.plan_num.proofs.ReadBack.{whole_back, fixed_back, whole_bytes, fixed_bytes}
use Rattle.tables.specs.declared.words.WordTable.{WordTable}
use Rattle.tables.specs.declared.words.WordTable.TheVariants as table
use Rattle.tables.specs.declared.column.ColumnKind.{ColumnKind}
use Rattle.tables.specs.declared.column.ColumnKind.TheVariants as kind
use Rattle.tables.specs.declared.row_why.RowWhy.{RowWhy}
use Rattle.tables.specs.Names.{table_words}
use Rattle.tables.specs.Reading.{in_range, place_of, cell_of, cells_from, errors, values}
use Rattle.tables.specs.Writing.{cell_text, cell_texts, IsSmall, CanWrite, InColumn, InColumns}
use Rattle.tables.proofs.CellFacts.{errors_ok, values_ok, errors_none, values_none}
use Rattle.tables.proofs.PlainBytes.{is_plain, IsCell, AreCells, all_weaker}
use Rattle.plan_num.proofs.Tests.{is_true}

-- a number in a range is its cell
pub range_back : (min max cell : ℤ) (column : ℕ) → min ≤ℤ cell → cell ≤ℤ max
    → in_range min max column (Some cell) ≡ Ok cell
range_back min max cell column low high = rw (is_true (int_le min cell) low.le, is_true (int_le cell max) high.le) refl

-- the bytes of a number mean nothing between cells
pub number_plain : (byte : ℕ) → is_number_byte byte ≡ true → is_plain byte ≡ true
number_plain byte h = grind (arith, nat_tests, ne_eqb)

whole_some : (cell : ℤ) → neg_ℤ (pos 1000000000000000000) ≤ℤ cell → cell ≤ℤ pos 1000000000000000000
    → 0 < length (signed_decimal cell)
whole_some (pos n) low high = decimal_nonempty n (omega (arith, ints))
whole_some (negsuc n) low high = omega arith

fixed_some : (cell : ℤ) → neg_ℤ (pos 1000000000000000000) ≤ℤ cell → cell ≤ℤ pos 1000000000000000000
    → 0 < length (fixed_text cell)
fixed_some (pos n) low high = grind (arith, ints, decimal_nonempty, length-append)
fixed_some (negsuc n) low high = omega arith

-- each word of a table is the text of a cell, and is found at its place
abbrev pub WordsGood : List (List ℕ) → List (List ℕ) → ℕ → Type 0
WordsGood table [] place = Unit {0}
WordsGood table (word ∷ words) place = IsCell word × (place_of table word ≡ Some place)
    × WordsGood table words (place + 1)

pub word_good : (table words : List (List ℕ)) (start place : ℕ) → WordsGood table words start
    → place < length words → IsCell (get_or words place [])
    × (place_of table (get_or words place []) ≡ Some (start + place))
word_good table [] start place h lt = absurd (omega arith)
word_good table (word ∷ words) start zero h lt = (h.0, h.1 ∙ ap Some (omega arith))
word_good table (word ∷ words) start (suc place) h lt = let more = word_good table words
    (start + 1) place h.2 (omega arith) in (more.0, more.1 ∙ ap Some (omega arith))

-- a text with a byte and only plain ones, as a test computes
pub plain_word : (text : List ℕ) → (ltb 0 (length text) && list_all is_plain text) ≡ true → IsCell text
plain_word text h = grind (arith, and_parts, is_plain, ltb-true)

words_good : (words : WordTable) → WordsGood (table_words words) (table_words words) 0
words_good table.EventKind = (plain_word _ refl, refl, (plain_word _ refl, refl, tt))
words_good table.ActivityKind = grind (arith, plain_word)
words_good table.Direction = (plain_word _ refl, refl, (plain_word _ refl, refl, tt))
words_good table.NodeKind = grind (arith, plain_word)
words_good table.ScheduleKind = (plain_word _ refl, refl, (plain_word _ refl, refl, tt))
words_good table.ReasonKind = (plain_word _ refl, refl, (plain_word _ refl, refl, (plain_word _ refl, refl, tt)))
words_good table.PeriodicKind = grind (arith, plain_word)
words_good table.WaitKind = grind (arith, plain_word)

-- so a field that is found there is the text of a cell
pub word_found : (words : WordTable) (field : List ℕ) (place : ℕ)
    → Some place ≡ place_of (table_words words) field → IsCell field
word_found words field place found =
    let at = position-Some (λ (word : List ℕ). bytes_eq word field) (table_words words) place []
    (sym found) in
    let same = (bytes_eq-Decides (get_or (table_words words) place []) field).0 at.1 in
    subst IsCell same
    (word_good (table_words words) (table_words words) 0 place (words_good words) at.0).0

-- and its place is small
few_words : (words : WordTable) → length (table_words words) ≤ 5
few_words table.EventKind = omega arith
few_words table.ActivityKind = omega arith
few_words table.PeriodicKind = omega arith
few_words table.Direction = omega arith
few_words table.NodeKind = omega arith
few_words table.ScheduleKind = omega arith
few_words table.ReasonKind = omega arith
few_words table.WaitKind = omega arith

pub small_place : (words : WordTable) (field : List ℕ) (place : ℕ)
    → Some place ≡ place_of (table_words words) field → place < 5
small_place words field place found =
    let at = position-Some (λ (word : List ℕ). bytes_eq word field) (table_words words) place []
    (sym found) in grind (arith, few_words)

-- a number within its column is within what can be read back
within : (min max cell : ℤ) → IsSmall min max → min ≤ℤ cell → cell ≤ℤ max
    → (neg_ℤ (pos 1000000000000000000) ≤ℤ cell) × (cell ≤ℤ pos 1000000000000000000)
within min max cell small low high = (omega (arith, ints), omega (arith, ints))

-- the text of a cell
pub text_is_cell : (kind : ColumnKind) (cell : ℤ) → CanWrite kind → InColumn kind cell → IsCell (cell_text kind cell)
unfolding cell_text
text_is_cell (kind.Whole min max) cell can inside =
    let small = within min max cell can inside.0 inside.1 in
    record {
      some = whole_some cell small.0 small.1;
      plain = all_weaker is_number_byte is_plain
          (signed_decimal cell) number_plain (whole_bytes cell small.0 small.1);
    }
text_is_cell (kind.Fixed min max) cell can inside =
    let small = within min max cell can inside.0 inside.1 in
    record {
      some = fixed_some cell small.0 small.1;
      plain = all_weaker is_number_byte is_plain
          (fixed_text cell) number_plain (fixed_bytes cell small.0 small.1);
    }
text_is_cell (kind.Word words) cell can inside = rw inside.2
    (word_good (table_words words) (table_words words) 0 inside.0 (words_good words) inside.1).0
text_is_cell kind.Skip cell can inside = absurd can

-- the cell of such a text
pub text_back : (kind : ColumnKind) (cell : ℤ) (column : ℕ) → CanWrite kind → InColumn kind cell
    → cell_of kind column (cell_text kind cell) ≡ Ok cell
unfolding cell_text cell_of
text_back (kind.Whole min max) cell column can inside =
    let small = within min max cell can inside.0 inside.1 in grind (arith, whole_back, range_back)
text_back (kind.Fixed min max) cell column can inside =
    let small = within min max cell can inside.0 inside.1 in grind (arith, fixed_back, range_back)
text_back (kind.Word words) cell column can inside =
    rw inside.2 (rw (word_good (table_words words) (table_words words) 0 inside.0
    (words_good words) inside.1).1 (ap (λ n. Ok (pos n)) (zero-add inside.0)))
text_back kind.Skip cell column can inside = absurd can

-- the texts of a row's cells
pub texts_are_cells : (kinds : List ColumnKind) (cells : List ℤ) → All CanWrite kinds
    → InColumns kinds cells → AreCells (cell_texts kinds cells)
unfolding cell_texts
texts_are_cells [] cells can inside = tt
texts_are_cells (kind ∷ kinds) [] can inside = tt
texts_are_cells (kind ∷ kinds) (cell ∷ cells) can inside = (
  text_is_cell kind cell (All-head CanWrite kind kinds can) inside.0,
  texts_are_cells kinds cells
      (All-tail CanWrite kind kinds can) inside.1,
)

-- are read back as these cells, without an error
pub texts_back : (column : ℕ) (kinds : List ColumnKind) (cells : List ℤ) → All CanWrite kinds → InColumns kinds cells
    → (errors (cells_from column kinds (cell_texts kinds cells)) ≡ [])
    × (values (cells_from column kinds (cell_texts kinds cells)) ≡ cells)
unfolding cell_texts cells_from
texts_back column [] [] can inside = (errors_none ℤ RowWhy, values_none ℤ RowWhy)
texts_back column [] (cell ∷ cells) can inside = absurd inside
texts_back column (kind ∷ kinds) [] can inside = absurd inside
texts_back column (kind ∷ kinds) (cell ∷ cells) can inside =
    let one = text_back kind cell column (All-head CanWrite kind kinds can) inside.0 in
    let more = texts_back (column + 1) kinds cells (All-tail CanWrite kind kinds can) inside.1 in
    rw one (rw (errors_ok cell _, values_ok cell _) (more.0, ap (λ (rest : List ℤ). cell ∷ rest) more.1))
