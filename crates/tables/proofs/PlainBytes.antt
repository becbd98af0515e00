-- Texts of bytes that mean nothing between cells.
use Rattle.plan_num.proofs.Common.{◌≡◌, ◌≢◌, ℕ, ◌-◌, ◌<◌, ◌==◌, ◌&&◌, zero, suc, List, [], ◌∷◌}
use Rattle.plan_num.proofs.Common.{◌++◌, length, map, get_or, refl, sym, ◌∙◌, arith, All, Bool}
use Rattle.plan_num.proofs.Common.{true, false, not, eqb, codes, append-nil, length-append}
use Rattle.plan_num.proofs.Common.{list_all, suffix_len, position_or_len, flat_map}
use Rattle.plan_num.proofs.Common.{strip_carriage_return, eqb-false, ne_eqb, not-true, and_parts}
use Rattle.plan_num.proofs.Common.{take_all, prefix_len_is, position_or_len_is, list_all-append}
use Rattle.plan_num.proofs.Common.{slice_split_none, slice_split_at}
use Rattle.std.proofs.lemmas.List.Sums.{suffix_len_is}
use Rattle.text_fields.specs.Rows.{is_blank, without_blanks, without_quotes, ends_empty, cleaned, pieces, parts_of, before_comment, row_of}
use Rattle.tables.specs.Writing.{joined}
use Rattle.text_fields.proofs.FieldFacts.{space_first}
use Rattle.plan_num.proofs.Tests.{and_false}

-- a byte that ends no line, no comment and no cell, and is no blank and no quote
abbrev pub is_plain : ℕ → Bool
is_plain byte = not (is_blank byte)
    && (not (byte == 10) && (not (byte == 13)
    && (not (byte == 34) && (not (byte == 35) && not (byte == 59)))))

-- a byte that ends no line and no comment
abbrev pub is_quiet : ℕ → Bool
is_quiet byte = not (byte == 10) && (not (byte == 13) && not (byte == 35))

-- a text of a cell: it has a byte, and only plain ones
pub record IsCell (text : List ℕ) : Type 0 where
  pub some : 0 < length text
  pub plain : list_all is_plain text ≡ true

-- what passes a test in each byte passes it at each place
pub all_at : (test : ℕ → Bool) (text : List ℕ) (i d : ℕ) → list_all test text ≡ true
    → i < length text → test (get_or text i d) ≡ true
all_at test [] i d h lt = absurd (omega arith)
all_at test (byte ∷ text) zero d h lt = (and_parts (test byte) (list_all test text) h).0
all_at test (byte ∷ text) (suc i) d h lt = all_at test text i d
    (and_parts (test byte) (list_all test text) h).1 (omega arith)

-- a test that follows from another passes where that does
pub all_weaker : (test other : ℕ → Bool) (text : List ℕ)
    → ((byte : ℕ) → test byte ≡ true → other byte ≡ true) → list_all test text ≡ true
    → list_all other text ≡ true
all_weaker test other [] more h = refl
all_weaker test other (byte ∷ text) more h =
    let b = and_parts (test byte) (list_all test text) h in rw
    (more byte b.0, all_weaker test other text more b.1) refl

-- what a plain byte is not
pub plain_is : (byte : ℕ) → is_plain byte ≡ true → (is_blank byte ≡ false) × (eqb byte 10 ≡ false)
    × (eqb byte 13 ≡ false) × (eqb byte 34 ≡ false) × (eqb byte 35 ≡ false) × (eqb byte 59 ≡ false)
plain_is byte h = grind arith

quiet_is : (byte : ℕ) → is_quiet byte ≡ true → (eqb byte 10 ≡ false) × (eqb byte 13 ≡ false) × (eqb byte 35 ≡ false)
quiet_is byte h = grind (arith, and_parts, not-true)

plain_quiet : (byte : ℕ) → is_plain byte ≡ true → is_quiet byte ≡ true
plain_quiet byte h = let p = plain_is byte h in rw (p.1, p.2, p.4) refl

-- a text of a cell has no blank round it
pub cell_ends : (text : List ℕ) → IsCell text → suffix_len is_blank text ≡ 0
cell_ends text h =
    suffix_len_is is_blank text (length text) 0 (omega arith) (λ k a b. absurd (omega arith))
    (λ lt. (plain_is (get_or text (length text - 1) 0)
    (all_at is_plain text (length text - 1) 0 h.plain (omega arith))).0) ∙ omega arith

pub cell_unblanked : (text : List ℕ) → IsCell text → without_blanks text ≡ text
cell_unblanked text h = grind (arith, prefix_len_is, plain_is, get_or, all_at, cell_ends, take_all)

pub cell_unquoted : (text : List ℕ) → IsCell text → without_quotes text ≡ text
cell_unquoted text h = grind arith

-- texts of cells
abbrev pub AreCells : List (List ℕ) → Type 0
AreCells [] = Unit {0}
AreCells (text ∷ texts) = IsCell text × AreCells texts

-- no byte ends a cell
abbrev NoEnd : List ℕ → Type 0
NoEnd text = list_all (λ byte. not (eqb byte 59)) text ≡ true

cell_no_end : (text : List ℕ) → IsCell text → NoEnd text
cell_no_end text h = all_weaker is_plain (λ byte. not (eqb byte 59)) text
    (λ byte p. rw (plain_is byte p).5 refl) h.plain

-- the texts behind the first, each with a semicolon and a space before it
abbrev others : List (List ℕ) → List ℕ
others texts = flat_map (λ more. codes "; " ++ more) texts

-- a line is cut into its texts, with the spaces before them
cut_cells : (first : List ℕ) (texts : List (List ℕ)) → NoEnd first → AreCells texts
    → pieces (first ++ others texts) ≡ first ∷ map (λ text. 32 ∷ text) texts
cut_cells first [] h cells = grind (arith, append-nil, slice_split_none, not-true, all_at)
cut_cells first (text ∷ texts) h cells = grind (
  arith,
  slice_split_at,
  not-true,
  all_at,
  cell_no_end,
  cut_cells (32 ∷ text) texts (cell_no_end text cells.0) cells.1,
)

unblank_cells : (texts : List (List ℕ)) → AreCells texts → map without_blanks (map (λ text. 32 ∷ text) texts) ≡ texts
unblank_cells [] h = refl
unblank_cells (text ∷ texts) h = rw (space_first text, cell_unblanked text h.0, unblank_cells texts h.1) refl

unquote_cells : (texts : List (List ℕ)) → AreCells texts → map without_quotes texts ≡ texts
unquote_cells [] h = refl
unquote_cells (text ∷ texts) h = rw (cell_unquoted text h.0, unquote_cells texts h.1) refl

last_place : (n : ℕ) → suc (suc n) - 1 ≡ suc (suc n - 1)
last_place n = omega arith

-- the last text has a byte
last_some : (texts : List (List ℕ)) → AreCells texts → 0 < length texts
    → 0 < length (get_or texts (length texts - 1) [])
last_some [] h some = absurd (omega arith)
last_some (text ∷ []) h some = h.0.some
last_some (text ∷ next ∷ texts) h some = rw (last_place (length texts)) (last_some (next ∷ texts) h.1 (omega arith))

kept_last : (texts : List (List ℕ)) → AreCells texts → 0 < length texts → ends_empty texts ≡ false
kept_last texts h some = grind (arith, last_some, ne_eqb, get_or, and_false)

-- the fields of a line of cells are their texts
pub cells_cleaned : (first : List ℕ) (texts : List (List ℕ)) → IsCell first → AreCells texts
    → cleaned (pieces (joined (first ∷ texts))) ≡ first ∷ texts
unfolding cleaned joined
cells_cleaned first texts h cells =
    grind (arith, cut_cells, cell_no_end, cell_unblanked, unblank_cells, kept_last, unquote_cells)

-- a line of cells has quiet bytes
others_quiet : (texts : List (List ℕ)) → AreCells texts → list_all is_quiet (others texts) ≡ true
others_quiet [] h = refl
others_quiet (text ∷ texts) h = grind (
  arith,
  list_all-append,
  all_weaker,
  plain_quiet,
  others_quiet
      texts h.1,
)

pub cells_quiet : (first : List ℕ) (texts : List (List ℕ)) → IsCell first → AreCells texts
    → list_all is_quiet (joined (first ∷ texts)) ≡ true
unfolding joined
cells_quiet first texts h cells = grind (
  arith,
  list_all-append,
  all_weaker,
  plain_quiet,
  others_quiet,
)

-- and is not blank
begins_plain : (first rest : List ℕ) → IsCell first → list_all is_blank (first ++ rest) ≡ false
begins_plain [] rest h = let none = h.some in absurd (omega arith)
begins_plain (byte ∷ first) rest h = grind (arith, plain_is, and_parts)

-- nothing of a quiet line is a comment
no_comment : (line : List ℕ) → list_all is_quiet line ≡ true → before_comment line ≡ line
no_comment line h =
    let none : position_or_len (λ byte. eqb byte 35) line ≡ length line =
    position_or_len_is (λ byte. eqb byte 35) line (length line) 0 (omega arith)
    (λ k lt. (quiet_is (get_or line k 0) (all_at is_quiet line k 0 h lt)).2)
    (λ lt. absurd (omega arith)) in grind (arith, take_all)

-- and no carriage return
last_quiet : (line : List ℕ) → list_all is_quiet line ≡ true → 0 < length line
    → eqb (get_or line (length line - 1) 0) 13 ≡ false
last_quiet line h some = (quiet_is (get_or line (length line - 1) 0)
    (all_at is_quiet line (length line - 1) 0 h (omega arith))).1

pub quiet_stripped : (line : List ℕ) → list_all is_quiet line ≡ true → 0 < length line
    → strip_carriage_return line ≡ line
quiet_stripped line h some = rw (last_quiet line h some) refl

-- a line of cells has a byte
pub line_some : (first : List ℕ) (texts : List (List ℕ)) → IsCell first → 0 < length (joined (first ∷ texts))
unfolding joined
line_some first texts h = omega (arith, h.some, length-append first (others texts))

some_text : (first : List ℕ) (texts : List (List ℕ)) → IsCell first → list_all is_blank (joined (first ∷ texts)) ≡ false
unfolding joined
some_text first texts h = begins_plain first (others texts) h

-- the row of a line of cells
pub cells_row : (number : ℕ) (first : List ℕ) (texts : List (List ℕ)) → IsCell first → AreCells texts
    → row_of number (joined (first ∷ texts)) ≡ record { number = number; fields = first ∷ texts } ∷ []
cells_row number first texts h cells =
    grind (arith, no_comment, cells_quiet, some_text, cells_cleaned)

-- a line ends at its line feed
pub line_cut : (line rest : List ℕ) → All (λ byte. byte ≢ 10) line → parts_of (line ++ 10 ∷ rest) ≡ line ∷ parts_of rest
line_cut line rest h = slice_split_at (λ byte. eqb byte 10) line 10 rest
    (λ k d lt. ne_eqb (get_or line k d) 10 (h k d lt)) refl

pub quiet_line : (line : List ℕ) → list_all is_quiet line ≡ true → All (λ byte. byte ≢ 10) line
quiet_line line h = λ k d lt. eqb-false (get_or line k d) 10
    (quiet_is (get_or line k d) (all_at is_quiet line k d h lt)).0
