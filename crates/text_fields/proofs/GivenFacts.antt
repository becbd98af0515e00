-- What csv is given of lines, some of which begin with the sign of a comment.
use Rattle.plan_num.proofs.Common.{◌≡◌, ℕ, ◌+◌, ◌<◌, List, [], ◌∷◌, length, refl, ap, sym, ◌∙◌}
use Rattle.plan_num.proofs.Common.{Bool, true, false, eqb, arith, filter, ne_eqb, ◌≤◌, Bor, Option}
use Rattle.plan_num.proofs.Common.{Some, None, IfSome, option_copied, eqb-true, false≢true}
use Rattle.text_fields.specs.Rows.{before_comment, has_byte}
use Rattle.text_fields.specs.Told.{PassesComments, begins, given, handed, is_odd, left_size, told_left}
use Rattle.text_fields.proofs.ToldFacts.{told_sign}
use Rattle.text_fields.proofs.HandedLines.{handed_none, told_some}

some_length : (byte : ℕ) (line : List ℕ) → eqb (length (byte ∷ line)) 0 ≡ false
some_length byte line = ne_eqb (length (byte ∷ line)) 0 (λ e. omega arith)

pub given_none : (signed : Bool) → given signed [] ≡ []
unfolding given
given_none signed = refl

pub given_first : (line : List ℕ) (more : List (List ℕ))
    → given false (line ∷ more) ≡ handed line ∷ given (begins line) more
unfolding given
given_first line more = refl

given_empty : (more : List (List ℕ)) → given true ([] ∷ more) ≡ given true more
unfolding given
given_empty more = refl

given_signed : (line : List ℕ) (more : List (List ℕ)) → begins line ≡ true
    → given true (line ∷ more) ≡ given true more
unfolding given begins
given_signed [] more e = absurd (false≢true e)
given_signed (byte ∷ line) more e = rw (e, some_length byte line) refl

-- any other line is given as where none that begins so stands before it
given_other : (line : List ℕ) (more : List (List ℕ)) → eqb (length line) 0 ≡ false
    → begins line ≡ false → given true (line ∷ more) ≡ given false (line ∷ more)
unfolding given
given_other line more some other = rw (some, other) refl

told_signed : (number : ℕ) (line : List ℕ) (more : List (List ℕ)) → begins line ≡ true
    → told_left number (line ∷ more) ≡ told_left (number + 1) more
unfolding begins
told_signed number [] more e = absurd (false≢true e)
told_signed number (byte ∷ line) more e = told_sign number byte line more (eqb-true byte 35 e)

some_signed : (line : List ℕ) → begins line ≡ true → eqb (length line) 0 ≡ false
unfolding begins
some_signed [] e = absurd (false≢true e)
some_signed (byte ∷ line) e = some_length byte line

-- ---- the lines of a text that are passed over

-- what is known where so many of the lines of some parts are passed over, and others are left
pub record Passed (all left : List (List ℕ)) (count : ℕ) : Type 0 where
  pub given : given true all ≡ given true left
  pub told : (number : ℕ)
      → told_left number (filter has_byte all) ≡ told_left (number + count) (filter has_byte left)
  pub lines : length (filter has_byte all) ≡ length (filter has_byte left) + count

-- one more, which begins with the sign of a comment
pub passed_signed : (all left : List (List ℕ)) (line : List ℕ) (more : List (List ℕ)) (count : ℕ)
    → Passed all left count → left ≡ line ∷ more → begins line ≡ true
    → Passed all more (count + 1)
passed_signed all left line more count passed is signed = grind (
  arith,
  some_signed,
  given_signed,
  told_signed,
)

-- or an empty one, which does not count
pub passed_empty : (all left : List (List ℕ)) (line : List ℕ) (more : List (List ℕ)) (count : ℕ)
    → Passed all left count → left ≡ line ∷ more → eqb (length line) 0 ≡ true
    → Passed all more count
passed_empty all left [] more count passed is empty = grind (arith, given_empty)
passed_empty all left (byte ∷ line) more count passed is empty =
    absurd (false≢true (sym (some_length byte line) ∙ empty))

pub passes : (all left : List (List ℕ)) (count : ℕ) → Passed all left count
    → PassesComments (filter has_byte all) (filter has_byte left) count
passes all left count passed = record { told = passed.told; lines = passed.lines }

-- with the first of them
pub passes_first : (all left : List (List ℕ)) (line : List ℕ) (more : List (List ℕ)) (count : ℕ)
    → all ≡ line ∷ more → begins line ≡ true → PassesComments more left count
    → PassesComments all left (count + 1)
passes_first all left line more count is signed passes = grind (arith, told_signed, passes)

-- where no line is left, or another is the first, it is given as it is
pub given_over : (all left : List (List ℕ)) (count : ℕ) → Passed all left count → left ≡ []
    → given true all ≡ given false []
given_over all left count passed none = grind (arith, given_none)

pub given_rest : (all left : List (List ℕ)) (line : List ℕ) (more : List (List ℕ)) (count : ℕ)
    → Passed all left count → left ≡ line ∷ more → eqb (length line) 0 ≡ false
    → begins line ≡ false → given true all ≡ given false left
given_rest all left line more count passed is some other = grind (arith, given_other)

-- what is left gets shorter with each line
pub less_left : (left : Option (Bor (List ℕ))) (text : Bor (List ℕ)) (rest : Option (Bor (List ℕ)))
    (count more room : ℕ) → left ≡ Some text
    → IfSome rest (λ rest. length rest.now < length text.now)
    → count + left_size (option_copied left) ≤ room → more ≤ 1
    → count + more + left_size (option_copied rest) ≤ room
less_left left text None count more room is shorter few one = omega (arith, rw is at few)
less_left left text (Some rest) count more room is shorter few one = grind arith

-- ---- lines with a byte

same_byte : (line : List ℕ) (t : Bool) → is_odd line ≡ t
    → eqb (length (handed line)) 0 ≡ eqb (length line) 0
unfolding handed
same_byte [] t e = ap (λ (line : List ℕ). eqb (length line) 0) handed_none
same_byte (byte ∷ line) true e = rw e (sym (ne_eqb (length (byte ∷ line)) 0 (omega arith)))
same_byte (byte ∷ line) false e =
    rw (
      e,
      ne_eqb (length (before_comment (byte ∷ line))) 0
          (omega (arith, told_some (byte ∷ line) (omega arith) e)),
    )
    (sym (ne_eqb (length (byte ∷ line)) 0 (omega arith)))

-- lines with a byte are given as among those without one
abbrev SameLines : Bool → List (List ℕ) → Type 0
SameLines signed parts = filter has_byte (given signed parts) ≡ given signed (filter has_byte parts)

same_if : (signed t u : Bool) (line : List ℕ) (parts : List (List ℕ))
    → eqb (length line) 0 ≡ t → begins line ≡ u
    → ((signed : Bool) → SameLines signed parts) → SameLines signed (line ∷ parts)
unfolding given begins
same_if true true u line parts e f more = rw e (more true)
same_if true false true line parts e f more = rw (e, f, e) (more true)
same_if true false false line parts e f more = grind (arith, same_byte)
same_if false true u [] parts e f more = rw handed_none (more false)
same_if false true u (byte ∷ line) parts e f more = grind (arith, false≢true, some_length)
same_if false false u line parts e f more = grind (arith, same_byte)

pub same_given : (signed : Bool) (parts : List (List ℕ)) → SameLines signed parts
same_given signed [] = rw given_none refl
same_given signed (line ∷ parts) =
    same_if signed (eqb (length line) 0) (begins line) line parts refl refl
    (λ signed. same_given signed parts)
