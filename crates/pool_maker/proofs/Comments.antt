-- A table is read back where comments stand behind it.
use Rattle.plan_num.proofs.Common.{◌≡◌, ◌≢◌, ℕ, suc, ◌+◌, ◌-◌, ◌==◌, Bool, true, false, cond, List}
use Rattle.plan_num.proofs.Common.{[], inl, inr, ◌∷◌, ◌++◌, length, map, filter, take, All, refl}
use Rattle.plan_num.proofs.Common.{ap, sym, subst, ◌∙◌, arith, append_assoc, ne_eqb, AllByRecursion}
use Rattle.plan_num.proofs.Common.{enumerate_from, flat_map, onto_first, strip_carriage_return}
use Rattle.plan_num.proofs.Common.{map-append, slice_split_none, cases_Bool}
use Rattle.tables.specs.declared.column.ColumnKind.{ColumnKind}
use Rattle.tables.proofs.Common.{table_row, table_is, no_mark, TableRow, IsHeader, ReadsBack}
use Rattle.tables.proofs.Common.{cell_texts, joined, line_text}
use Rattle.tables.specs.Reading.{row_faults}
use Rattle.text_fields.specs.Rows.{Row, has_byte, lines, parts_of, row_of, rows, has_mark}
use Rattle.tables.specs.Writing.{table_text}

-- ---- the lines of two texts, the first of which ends a line

-- a text has a first part
record HasPart (parts : List (List ℕ)) : Type 0 where
  first : List ℕ
  rest : List (List ℕ)
  is : parts ≡ first ∷ rest

has_part : (text : List ℕ) → HasPart (parts_of text)
has_part [] = record { first = []; rest = []; is = refl }
has_part (byte ∷ text) = grind (arith, has_part text)

pub parts_both : (text more : List ℕ) → parts_of (text ++ 10 ∷ more) ≡ parts_of text ++ parts_of
    more
parts_both [] more = refl
parts_both (byte ∷ text) more = elim (cases_Bool (byte == 10)) [
  | inl ends ↦ rw ends (ap (λ parts. [] ∷ parts) (parts_both text more))
  | inr goes_on ↦ rw goes_on (
      let part = has_part text in
      ap (onto_first byte) (parts_both text more ∙ ap (λ parts. parts ++ parts_of more) part.is)
      ∙ sym (ap (λ parts. onto_first byte parts ++ parts_of more) part.is))
]

-- ---- lines without a row

-- a line that has no row, whatever its number is
abbrev IsRowless : List ℕ → Type 0
IsRowless line = (number : ℕ) → row_of number line ≡ []

-- the rows of numbered lines
abbrev rows_from : ℕ → List (List ℕ) → List Row
rows_from number some =
    flat_map (λ line. row_of line.0 line.1) (enumerate_from number (filter has_byte some))

none_from : (number : ℕ) (some : List (List ℕ)) → AllByRecursion IsRowless some
    → rows_from number some ≡ []
none_from number [] none = refl
none_from number (line ∷ some) none =
    grind (arith, cases_Bool, none_from (number + 1) some none.1, none_from number some none.1)

rows_front : (number : ℕ) (some more : List (List ℕ)) → AllByRecursion IsRowless more
    → rows_from number (some ++ more) ≡ rows_from number some
rows_front number [] more none = none_from number more none
rows_front number (line ∷ some) more none =
    grind (
      arith,
      cases_Bool,
      rows_front (number + 1) some more none,
      rows_front number some more none,
    )

-- ---- comments

-- a text all of whose lines have no row
abbrev pub AreComments : List ℕ → Type 0
AreComments text = AllByRecursion IsRowless (lines text)

pub no_comments : AreComments []
no_comments = (λ number. refl, tt)

-- a line that begins with a comment sign has no row
sign_first : (line : List ℕ) → IsRowless (35 ∷ line)
sign_first line = λ number. refl

last_place : (n : ℕ) → suc (suc n) - 1 ≡ suc n
last_place n = omega arith

cut_first : (line : List ℕ) (cut : Bool)
    → IsRowless (cond cut (take (length (35 ∷ line) - 1) (35 ∷ line)) (35 ∷ line))
cut_first line false = sign_first line
cut_first [] true = λ number. refl
cut_first (byte ∷ line) true = rw (last_place (length line))
    (sign_first (take (length line) (byte ∷ line)))

stripped : (line : List ℕ) → IsRowless (strip_carriage_return (35 ∷ line))
stripped line = cut_first line _

both_rowless : (some more : List (List ℕ)) → AllByRecursion IsRowless some
    → AllByRecursion IsRowless more
    → AllByRecursion IsRowless (some ++ more)
both_rowless [] more first second = second
both_rowless (line ∷ some) more first second = (first.0, both_rowless some more first.1 second)

lines_both : (text more : List ℕ) → lines (text ++ 10 ∷ more) ≡ lines text ++ lines more
lines_both text more = grind (arith, parts_both, map-append)

-- a comment before others
pub comment_more : (line more : List ℕ) → All (λ byte. byte ≢ 10) (35 ∷ line) → AreComments more
    → AreComments (35 ∷ line ++ 10 ∷ more)
comment_more line more plain rest =
    subst (AllByRecursion IsRowless) (sym (lines_both (35 ∷ line) more))
    (both_rowless (lines (35 ∷ line)) (lines more) (alone (one_part (35 ∷ line) plain)) rest)
  where
    one_part : (text : List ℕ) → All (λ byte. byte ≢ 10) text → parts_of text ≡ text ∷ []
    one_part text plain = slice_split_none (λ byte. byte == 10) text
        (λ k d h. ne_eqb _ 10 (plain k d h))

    alone : parts_of (35 ∷ line) ≡ (35 ∷ line) ∷ [] → AllByRecursion IsRowless (lines (35 ∷ line))
    alone is = subst (λ parts. AllByRecursion IsRowless (map strip_carriage_return parts)) (sym is)
        (stripped line, tt)

-- ---- a table with comments behind it

-- a text that ends a line
record EndsLine (text : List ℕ) : Type 0 where
  front : List ℕ
  is : text ≡ front ++ 10 ∷ []

ends_line : (front : List ℕ) (kinds : List ColumnKind) (table : List TableRow)
    → EndsLine (front ++ 10 ∷ flat_map (line_text kinds) table)
ends_line front kinds [] = record { front = front; is = refl }
ends_line front kinds (row ∷ table) =
    let line = joined (cell_texts kinds row.cells) in grind (
      arith,
      append_assoc,
      ends_line (front
          ++ 10 ∷ line) kinds table,
    )

rows_kept : (text comments : List ℕ) → EndsLine text → AreComments comments
    → rows (text ++ comments) ≡ rows text
unfolding rows
rows_kept text comments ends none = grind (arith, append_assoc, lines_both, rows_front, no_comments)

-- a table that is read back is read back as well where comments stand behind it
pub back_with_comments : (header : List ℕ) (kinds : List ColumnKind) (table : List TableRow)
    (comments : List ℕ) → IsHeader header → AreComments comments
    → ReadsBack kinds table (table_text header kinds table)
    → ReadsBack kinds table (table_text header kinds table ++ comments)
unfolding table_text
back_with_comments header kinds table comments is none back =
    let text = header ++ 10 ∷ flat_map (line_text kinds) table in
    let same = rows_kept text comments (ends_line header kinds table) none in
    let first = unmarked header is (10 ∷ flat_map (line_text kinds) table) in
    let longer =
    ap has_mark (append_assoc header (10 ∷ flat_map (line_text kinds) table) comments)
    ∙ unmarked header is (10 ∷ flat_map (line_text kinds) table ++ comments) in (
      sym (no_mark kinds (text ++ comments) longer) ∙ ap (flat_map (row_faults kinds)) same
          ∙ no_mark kinds text first ∙ back.0,
      ap (map (λ (row : TableRow). row.cells)) (sym (table_is kinds (text ++ comments))
          ∙ ap (map (table_row kinds)) same ∙ table_is kinds text) ∙ back.1,
    )
  where
    unmarked : (header : List ℕ) → IsHeader header → (more : List ℕ) → has_mark (header ++ more)
        ≡ false
    unmarked [] is more = absurd (let first = is.0 in cc)
    unmarked (byte ∷ header) is more =
        let first : byte ≡ 35 = let found = is.0 in cc in
        rw first refl
