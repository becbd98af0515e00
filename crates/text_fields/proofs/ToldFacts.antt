-- The lines that have rows, one after the other.
use Rattle.plan_num.proofs.Common.{◌≡◌, ℕ, ◌+◌, List, [], ◌∷◌, ◌++◌, length, map, refl, sym, ◌∙◌}
use Rattle.plan_num.proofs.Common.{Bool, true, false, not, eqb, arith, filter, get_or, ne_eqb, suc}
use Rattle.plan_num.proofs.Common.{take, ◌-◌, flat_map, enumerate_from, list_all}
use Rattle.plan_num.proofs.Common.{strip_carriage_return, eqb-true, false≢true, not-true, not-false}
use Rattle.plan_num.proofs.Common.{map-append}
use Rattle.text_fields.specs.Rows.{is_blank, before_comment, row_of, has_byte, lines, parts_of}
use Rattle.text_fields.specs.Rows.{rows}
use Rattle.text_fields.specs.Told.{Told, told_of, told_left, row_told}

-- a line without a byte has no number
empty_told : (number : ℕ) (part : List ℕ) (parts : List (List ℕ))
    → eqb (length (strip_carriage_return part)) 0 ≡ true
    → told_left number (part ∷ parts) ≡ told_left number parts
unfolding told_left
empty_told number part parts e = rw e refl

-- any other has the next
numbered_told : (number : ℕ) (part : List ℕ) (parts : List (List ℕ))
    → eqb (length (strip_carriage_return part)) 0 ≡ false
    → told_left number (part ∷ parts) ≡ told_of (number + 1) (strip_carriage_return part)
    ++ told_left (number + 1) parts
unfolding told_left
numbered_told number part parts e = rw e refl

module _ (number : ℕ) (part line : List ℕ) (left parts : List (List ℕ)) (all : List Told)
    (is : left ≡ part ∷ parts) (same : line ≡ strip_carriage_return part)
    (whole : told_left number left ≡ all) where
  -- an empty line is passed over
  pub told_empty : eqb (length line) 0 ≡ true → told_left number parts ≡ all
  told_empty empty = sym (empty_told number part parts (rw same at empty)) ∙ rw is at whole

  numbered : eqb (length line) 0 ≡ false → told_of (number + 1) line ++ told_left (number + 1) parts
      ≡ all
  numbered some = rw same (sym (numbered_told number part parts (rw same at some)) ∙ rw is at whole)

  -- so is one with only blanks before a comment, which has a number
  pub told_blank : eqb (length line) 0 ≡ false
      → not (list_all is_blank (before_comment line)) ≡ false
      → told_left (number + 1) parts ≡ all
  told_blank some blank = rw (not-false _ blank) at (numbered some)

  -- any other comes first of those that are left
  pub told_first : eqb (length line) 0 ≡ false
      → not (list_all is_blank (before_comment line)) ≡ true
      → all ≡ record { number = number + 1; line = before_comment line }
      ∷ told_left (number + 1) parts
  told_first some told = sym (rw (not-true _ told) at (numbered some))

-- the row of a line
row_of_told : (number : ℕ) (line : List ℕ) (t : Bool) → list_all is_blank (before_comment line) ≡ t
    → row_of number line ≡ map row_told (told_of number line)
row_of_told number line true e = rw e refl
row_of_told number line false e = rw e refl

rows_of_told : (lines : List (ℕ × List ℕ)) → flat_map (λ line. row_of line.0 line.1) lines
    ≡ map row_told (flat_map (λ line. told_of line.0 line.1) lines)
rows_of_told [] = refl
rows_of_told (line ∷ lines) = grind (arith, row_of_told, map-append, rows_of_told lines)

-- the rows of a text are those of its lines that have rows
pub rows_told : (text : List ℕ) → rows text ≡ map row_told (told_left 0 (parts_of text))
unfolding rows told_left
rows_told text = rows_of_told (enumerate_from 1 (filter has_byte (lines text)))

-- lines without a byte count for nothing
no_byte : (part : List ℕ) → eqb (length part) 0 ≡ true
    → eqb (length (strip_carriage_return part)) 0 ≡ true
no_byte [] e = refl
no_byte (byte ∷ part) e = absurd (omega (arith, eqb-true (length (byte ∷ part)) 0 e))

told_some_if : (number : ℕ) (part : List ℕ) (parts : List (List ℕ)) (t u : Bool)
    → eqb (length (strip_carriage_return part)) 0 ≡ t → eqb (length part) 0 ≡ u
    → ((n : ℕ) → told_left n (filter has_byte parts) ≡ told_left n parts)
    → told_left number (filter has_byte (part ∷ parts)) ≡ told_left number (part ∷ parts)
told_some_if number part parts true true e f more =
    rw f (more number ∙ sym (empty_told number part parts e))
told_some_if number part parts true false e f more = grind (arith, empty_told)
told_some_if number part parts false true e f more = absurd (false≢true (sym e ∙ no_byte part f))
told_some_if number part parts false false e f more = grind (arith, numbered_told)

pub told_some : (parts : List (List ℕ)) (number : ℕ)
    → told_left number (filter has_byte parts) ≡ told_left number parts
told_some [] number = refl
told_some (part ∷ parts) number =
    told_some_if number part parts (eqb (length (strip_carriage_return part)) 0)
    (eqb (length part) 0) refl refl (told_some parts)

pub none_told : (number : ℕ) → told_left number [] ≡ []
unfolding told_left
none_told number = refl

last_place : (n : ℕ) → suc (suc n) - 1 ≡ suc n
last_place n = omega arith

sign_kept_if : (rest : List ℕ) (t : Bool) → eqb (get_or (35 ∷ rest) (length (35 ∷ rest) - 1) 0) 13 ≡ t
    → (kept : List ℕ) × (strip_carriage_return (35 ∷ rest) ≡ 35 ∷ kept)
sign_kept_if rest false e = (rest, rw e refl)
sign_kept_if [] true e = absurd (false≢true e)
sign_kept_if (byte ∷ rest) true e =
    (take (length rest) (byte ∷ rest), rw e (rw (last_place (length rest)) refl))

-- without a carriage return at its end a line still begins with the sign of a comment
pub sign_kept : (rest : List ℕ) → (kept : List ℕ) × (strip_carriage_return (35 ∷ rest) ≡ 35 ∷ kept)
sign_kept rest = sign_kept_if rest (eqb (get_or (35 ∷ rest) (length (35 ∷ rest) - 1) 0) 13) refl

-- such a line has no row, and a number
pub told_sign : (number byte : ℕ) (line : List ℕ) (parts : List (List ℕ)) → byte ≡ 35
    → told_left number ((byte ∷ line) ∷ parts) ≡ told_left (number + 1) parts
told_sign number byte line parts is = grind (arith, sign_kept, numbered_told, ne_eqb)
