-- The rows of the lines that are left of a text.
use Rattle.plan_num.proofs.Common.{◌≡◌, ◌+◌, [], ◌∷◌, ◌++◌, length, map, filter, refl, false, eqb}
use Rattle.plan_num.proofs.Common.{Bor, Option, Some, None, flat_map, enumerate_from, option_copied}
use Rattle.plan_num.proofs.Common.{strip_carriage_return}
use Rattle.std.proofs.Common.{ℕ, List}
use Rattle.text_fields.specs.Rows.{Row, row_of, has_byte, parts_of, parts_left, rows}

-- the rows of lines, after so many that were numbered
unfoldable pub rows_left : ℕ → List (List ℕ) → List Row
rows_left number parts =
    flat_map (λ line. row_of line.0 line.1) (enumerate_from (number + 1)
    (filter has_byte (map strip_carriage_return parts)))

-- at first all rows are left
pub all_left : (text : List ℕ) → rows_left 0 (parts_of text) ≡ rows text
unfolding rows_left rows
all_left text = refl

-- any other has the next
numbered_line : (number : ℕ) (part : List ℕ) (parts : List (List ℕ))
    → eqb (length (strip_carriage_return part)) 0 ≡ false
    → rows_left number (part ∷ parts) ≡ row_of (number + 1) (strip_carriage_return part)
    ++ rows_left (number + 1) parts
unfolding rows_left
numbered_line number part parts e = rw e refl

-- what is left of a text, in parts
pub parts_are : (left : Option (Bor (List ℕ))) (text : Bor (List ℕ)) (parts : List (List ℕ))
    → left ≡ Some text → parts_of text.now ≡ parts → parts_left (option_copied left) ≡ parts
parts_are left text parts e f = rw e f

-- any other has its row, and then those that are left after it
pub numbered_step : (number : ℕ) (part line : List ℕ) (left parts : List (List ℕ))
    → left ≡ part ∷ parts → line ≡ strip_carriage_return part → eqb (length line) 0 ≡ false
    → rows_left number left ≡ row_of (number + 1) line ++ rows_left (number + 1) parts
numbered_step number part line left parts e f some =
    rw (e, f) (numbered_line number part parts (rw f at some))

pub no_parts : (left : Option (Bor (List ℕ))) → ((text : Bor (List ℕ)) → left ≡ Some text → ⊥)
    → parts_left (option_copied left) ≡ []
no_parts None h = refl
no_parts (Some text) h = absurd (h text refl)
