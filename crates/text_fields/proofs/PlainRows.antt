-- The pieces of a line without a comment are those of its row.
use Rattle.plan_num.proofs.Common.{◌≡◌, ◌≢◌, ℕ, ◌+◌, ◌-◌, ◌≤◌, List, [], ◌∷◌, length, cond, get_or}
use Rattle.plan_num.proofs.Common.{refl, ap, sym, Bool, true, false, eqb, All, arith, zero, suc}
use Rattle.plan_num.proofs.Common.{ne_eqb, ltb, ◌<◌, one-add, list_all, onto_first, position_or_len}
use Rattle.plan_num.proofs.Common.{strip_carriage_return, eqb-false, eqb-true, false≢true}
use Rattle.plan_num.proofs.Common.{ltb-false, ltb-true, length-take, take_all, All-take}
use Rattle.plan_num.proofs.Common.{length-slice_split, fails_before_first}
use Rattle.std.proofs.Common.{slice_index}
use Rattle.std.proofs.lemmas.List.Splits.{join_with_byte-slice_split}
use Rattle.text_fields.specs.Rows.{Row, before_comment, cleaned, is_blank, pieces}
use Rattle.text_fields.specs.declared.text_row.LineRead.TheVariants as read
use Rattle.text_fields.specs.Told.{LineGives, handed, is_odd, returns}
use Rattle.text_fields.specs.Told.{unreturned}
use Rattle.text_fields.proofs.Lines.{not_commented}
use Rattle.text_fields.proofs.ToldFacts.{told_first}

-- ---- a carriage return at the end of a line is one at the end of its last piece

strip_next_if : (t : Bool) (c b : ℕ) (rest : List ℕ)
    → eqb (slice_index (b ∷ rest) (length rest)) 13 ≡ t
    → strip_carriage_return (c ∷ b ∷ rest) ≡ c ∷ strip_carriage_return (b ∷ rest)
strip_next_if t c b rest e = grind (arith, slice_index)

strip_next : (c b : ℕ) (rest : List ℕ)
    → strip_carriage_return (c ∷ b ∷ rest) ≡ c ∷ strip_carriage_return (b ∷ rest)
strip_next c b rest = strip_next_if (eqb (slice_index (b ∷ rest) (length rest)) 13) c b rest refl

-- a line that is one piece is that piece
one_piece : (line piece : List ℕ) → pieces line ≡ piece ∷ [] → piece ≡ line
one_piece line piece e = rw e at (join_with_byte-slice_split 59 line)

one_if : (t u : Bool) (c : ℕ) → eqb c 59 ≡ t → eqb c 13 ≡ u
    → pieces (strip_carriage_return (c ∷ [])) ≡ unreturned (pieces (c ∷ []))
unfolding unreturned
one_if true true c e f = absurd (omega (arith, eqb-true c 59 e, eqb-true c 13 f))
one_if true false c e f = simp (e, f)
one_if false true c e f = simp (e, f)
one_if false false c e f = simp (e, f)

more_if : (t : Bool) (c b : ℕ) (rest : List ℕ) (parts : List (List ℕ))
    → pieces (b ∷ rest) ≡ parts → eqb c 59 ≡ t
    → cond t ([] ∷ unreturned parts) (onto_first c (unreturned parts))
    ≡ unreturned (cond t ([] ∷ parts) (onto_first c parts))
unfolding unreturned
more_if t c b rest [] is e =
    absurd (omega (arith, length-slice_split (λ n. eqb n 59) (b ∷ rest), ap length is))
more_if true c b rest (piece ∷ []) is e = refl
more_if true c b rest (piece ∷ next ∷ more) is e = refl
more_if false c b rest (piece ∷ []) is e =
    let whole = one_piece (b ∷ rest) piece is in grind (arith, strip_next)
more_if false c b rest (piece ∷ next ∷ more) is e = refl

pieces_stripped : (line : List ℕ)
    → pieces (strip_carriage_return line) ≡ unreturned (pieces line)
unfolding unreturned
pieces_stripped [] = refl
pieces_stripped (c ∷ []) = one_if (eqb c 59) (eqb c 13) c refl refl
pieces_stripped (c ∷ b ∷ rest) = grind (arith, strip_next, more_if, pieces_stripped (b ∷ rest))

-- ---- pieces without it, one by one

pub length_unreturned : (parts : List (List ℕ)) → length (unreturned parts) ≡ length parts
unfolding unreturned
length_unreturned [] = refl
length_unreturned (piece ∷ []) = refl
length_unreturned (piece ∷ next ∷ more) = ap suc (length_unreturned (next ∷ more))

pub last_unreturned : (parts : List (List ℕ)) (i : ℕ) → i + 1 ≡ length parts
    → get_or (unreturned parts) i [] ≡ strip_carriage_return (get_or parts i [])
unfolding unreturned
last_unreturned [] i last = absurd (omega arith)
last_unreturned (piece ∷ []) zero last = refl
last_unreturned (piece ∷ []) (suc i) last = absurd (omega arith)
last_unreturned (piece ∷ next ∷ more) zero last = absurd (omega arith)
last_unreturned (piece ∷ next ∷ more) (suc i) last = last_unreturned (next ∷ more) i (omega arith)

pub other_unreturned : (parts : List (List ℕ)) (i : ℕ) → (i + 1 ≡ length parts → ⊥)
    → get_or (unreturned parts) i [] ≡ get_or parts i []
unfolding unreturned
other_unreturned [] i other = refl
other_unreturned (piece ∷ []) zero other = absurd (other (omega arith))
other_unreturned (piece ∷ []) (suc i) other = refl
other_unreturned (piece ∷ next ∷ more) zero other = refl
other_unreturned (piece ∷ next ∷ more) (suc i) other =
    other_unreturned (next ∷ more) i (λ last. other (omega arith))

pub none_unreturned : (parts : List (List ℕ)) (i : ℕ) → get_or parts i [] ≡ []
    → get_or (unreturned parts) i [] ≡ []
unfolding unreturned
none_unreturned [] i none = refl
none_unreturned (piece ∷ []) zero none = rw none refl
none_unreturned (piece ∷ []) (suc i) none = refl
none_unreturned (piece ∷ next ∷ more) zero none = none
none_unreturned (piece ∷ next ∷ more) (suc i) none = none_unreturned (next ∷ more) i none

pub all_unreturned : (parts : List (List ℕ)) (i : ℕ) → i + 1 ≡ length parts
    → returns (get_or parts i []) ≡ false → unreturned parts ≡ parts
unfolding unreturned
all_unreturned [] i last none = refl
all_unreturned (piece ∷ []) zero last none = rw none refl
all_unreturned (piece ∷ []) (suc i) last none = absurd (omega arith)
all_unreturned (piece ∷ next ∷ more) zero last none = absurd (omega arith)
all_unreturned (piece ∷ next ∷ more) (suc i) last none =
    grind (arith, all_unreturned (next ∷ more) i (omega arith) none)

-- ---- a line that csv gives as two pieces or more

-- a line of blanks alone is one piece
blank_piece : (line : List ℕ) → list_all is_blank line ≡ true → length (pieces line) ≡ 1
blank_piece [] blank = refl
blank_piece (byte ∷ line) blank = grind (arith, blank_piece line)

not_blank : (line : List ℕ) → 2 ≤ length (pieces line) → (t : Bool) → list_all is_blank line ≡ t
    → list_all is_blank line ≡ false
not_blank line long true e = absurd (omega (arith, blank_piece line e))
not_blank line long false e = e

not_empty : (line : List ℕ) → list_all is_blank (before_comment line) ≡ false
    → eqb (length line) 0 ≡ false
not_empty [] some = absurd (false≢true (sym some))
not_empty (byte ∷ line) some = ne_eqb (length (byte ∷ line)) 0 (omega arith)

-- where nothing is cut off there is no comment
before_comment_all : (line : List ℕ) → length line ≤ length (before_comment line)
    → before_comment line ≡ line
before_comment_all line e = grind (arith, take_all, length-take)

bare_line : (line : List ℕ) → before_comment line ≡ line → All (λ byte. byte ≢ 35) line
bare_line line is = λ k d h. eqb-false _ 35 (fails_before_first (λ byte. eqb byte 35) line k d
    (omega (arith, ap length is, length-take (position_or_len (λ byte. eqb byte 35) line) line)))

stripped_if : (line : List ℕ) (t : Bool) → returns line ≡ t → All (λ byte. byte ≢ 35) line
    → All (λ byte. byte ≢ 35) (strip_carriage_return line)
stripped_if line true e bare =
    rw e (All-take (λ byte. byte ≢ 35) (length line - 1) line bare)
stripped_if line false e bare = rw e bare

stripped_bare : (line : List ℕ) → before_comment line ≡ line
    → before_comment (strip_carriage_return line) ≡ strip_carriage_return line
stripped_bare line is = grind (arith, not_commented, stripped_if, bare_line)

-- ---- a carriage return at the end of a line with a comment belongs to the comment

kept_one : (c : ℕ) (t : Bool) → eqb c 35 ≡ t → length (before_comment (c ∷ [])) < 1
    → before_comment (strip_carriage_return (c ∷ [])) ≡ before_comment (c ∷ [])
kept_one c true e less = let is = eqb-true c 35 e in rw is refl
kept_one c false e less = absurd (omega (arith, rw e at less))

next_told : (c : ℕ) (rest : List ℕ) → eqb c 35 ≡ false
    → before_comment (c ∷ rest) ≡ c ∷ before_comment rest
next_told c rest e = rw (e, one-add) refl

kept_next : (c : ℕ) (more rest : List ℕ) (t : Bool) → eqb c 35 ≡ t
    → (length (before_comment rest) < length rest → before_comment more ≡ before_comment rest)
    → length (before_comment (c ∷ rest)) < length (c ∷ rest)
    → before_comment (c ∷ more) ≡ before_comment (c ∷ rest)
kept_next c more rest true e same less = rw e refl
kept_next c more rest false e same less = grind (arith, next_told)

comment_kept : (line : List ℕ) → length (before_comment line) < length line
    → before_comment (strip_carriage_return line) ≡ before_comment line
comment_kept [] less = absurd (omega arith)
comment_kept (c ∷ []) less = kept_one c (eqb c 35) refl less
comment_kept (c ∷ b ∷ rest) less =
    rw (strip_next c b rest)
    (kept_next c (strip_carriage_return (b ∷ rest)) (b ∷ rest) (eqb c 35) refl
    (comment_kept (b ∷ rest)) less)

-- ---- a line that csv gives as two pieces or more

-- without a carriage return its pieces are those of a row
record IsPlain (line : List ℕ) (found : List (List ℕ)) : Type 0 where
  pieces : unreturned found ≡ pieces (before_comment (strip_carriage_return line))
  some : list_all is_blank (before_comment (strip_carriage_return line)) ≡ false

-- what is told of a line, without a carriage return where it has no comment
stands_as : (line : List ℕ) → is_odd line ≡ false → (t : Bool)
    → ltb (length (before_comment line)) (length line) ≡ t
    → before_comment (strip_carriage_return line) ≡ strip_carriage_return (before_comment line)
unfolding is_odd
stands_as line e true f = grind (arith, comment_kept, ltb-true)
stands_as line e false f = grind (arith, before_comment_all, ltb-false, stripped_bare)

plain_if : (line : List ℕ) (found : List (List ℕ)) (t : Bool) → is_odd line ≡ t
    → found ≡ pieces (handed line) → 2 ≤ length found → IsPlain line found
unfolding handed
plain_if line found true e is long = grind arith
plain_if line found false e is long = grind (
  arith,
  stands_as,
  pieces_stripped,
  not_blank,
  length_unreturned,
)

-- such pieces make the next row
pub plain_row : (number : ℕ) (line : List ℕ) (found left more : List (List ℕ))
    → left ≡ line ∷ more → found ≡ pieces (handed line) → 2 ≤ length found
    → LineGives number left more
    (record { number = number + 1; fields = cleaned (unreturned found) }) read.Row
plain_row number line found left more is given long =
    let plain = plain_if line found (is_odd line) refl given long in grind (
      arith,
      told_first,
      not_empty,
    )
