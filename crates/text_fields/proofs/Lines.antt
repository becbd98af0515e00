-- Parts of a line that are counted and then cut off.
use Rattle.std.proofs.Common.{◌≡◌, ◌≢◌, ℕ, ◌+◌, ◌-◌, ◌<◌, ◌≤◌, List, [], ◌∷◌, length, take, drop}
use Rattle.std.proofs.Common.{ap, get_or, refl, sym, ◌∙◌, Bool, true, false, cond, eqb, ltb}
use Rattle.std.proofs.Common.{reverse, All, Option, Some, None, arith, length-take, get_or-take}
use Rattle.std.proofs.Common.{not, one-add}
use Rattle.std.proofs.Math.Logic.{⊎_elim}
use Rattle.std.specs.List.{suffix_len, find, list_all, take_while, position, position_or_len, prefix_len}
use Rattle.std.specs.Option.{MatchOption}
use Rattle.std.proofs.lemmas.Bool.{cases_lt, ltb-true, ltb-false, eqb-false, eqb-true, false≢true, ne_eqb}
use Rattle.std.proofs.lemmas.List.Sums.{prefix_len_passes, prefix_len_stops, fails_before_first, position_or_len_is}
use Rattle.std.proofs.lemmas.List.Splits.{slice_split_none, slice_split_first}
use Rattle.std.proofs.lemmas.List.{get_or-drop, get_or-reverse, length-drop, take_all, take_rest}
use Rattle.std.proofs.lemmas.List.Folds.{length-prefix_len}
use Rattle.text_fields.specs.Rows.{is_blank, without_blanks, before_comment, parts_of}

-- a field without the blanks round it, by what stands behind those in front
pub cut_blanks : (field front : List ℕ) (after : ℕ) → front ≡ drop (prefix_len is_blank field) field
    → after ≡ length (take_while is_blank (reverse front))
    → take (length front - after) front ≡ without_blanks field
cut_blanks field front after e f =
    let end = f ∙ length-prefix_len is_blank (reverse front) in rw (end, e) refl

-- a byte is a line feed
abbrev is_feed : ℕ → Bool
is_feed byte = eqb byte 10

found_or_not : (text : List ℕ) (end : Option ℕ) (t : Bool)
    → ltb (position_or_len is_feed text) (length text) ≡ t
    → end ≡ cond t (Some (position_or_len is_feed text)) None
    → MatchOption end (length text ≤ position_or_len is_feed text)
    (λ at. (at ≡ position_or_len is_feed text) × (at < length text))
found_or_not text end true e f = rw f (refl, ltb-true _ _ e)
found_or_not text end false e f = rw f (ltb-false _ _ e)

-- the place of the first line feed, or that there is none
place_of_feed : (text : List ℕ) (end : Option ℕ) → end ≡ position is_feed text
    → MatchOption end (length text ≤ position_or_len is_feed text)
    (λ at. (at ≡ position_or_len is_feed text) × (at < length text))
place_of_feed text end e =
    found_or_not text end (ltb (position_or_len is_feed text) (length text)) refl e

-- without a line feed the text is one part
pub one_part : (text : List ℕ) → None ≡ position is_feed text → (parts_of text ≡ text ∷ [])
    × All (λ byte. byte ≢ 10) text
one_part text e =
    grind (arith, fails_before_first, place_of_feed, slice_split_none, eqb-false, get_or)

-- with one the first part ends there
first_at : (text : List ℕ) (end : ℕ) → end ≡ position_or_len is_feed text → end < length text
    → (parts_of text ≡ take end text ∷ parts_of
    (take (length text - (end + 1)) (drop (end + 1) text)))
    × All (λ byte. byte ≢ 10) (take end text)
first_at text end is within =
    grind (
      arith,
      take_rest,
      slice_split_first,
      length-take,
      eqb-false,
      get_or-take,
      fails_before_first,
    )

pub first_of_parts : (text : List ℕ) (end : ℕ) → Some end ≡ position is_feed text
    → (parts_of text ≡ take end text ∷ parts_of
    (take (length text - (end + 1)) (drop (end + 1) text)))
    × All (λ byte. byte ≢ 10) (take end text)
first_of_parts text end e =
    let at = place_of_feed text (Some end) e in first_at text end at.0 at.1

-- a line without the sign of a comment has none
pub not_commented : (line : List ℕ) → All (λ byte. byte ≢ 35) line → line ≡ before_comment line
not_commented line bare =
    let none : position_or_len (λ byte. eqb byte 35) line ≡ length line =
    position_or_len_is (λ byte. eqb byte 35) line (length line) 0 (omega arith)
    (λ k lt. ne_eqb (get_or line k 0) 35 (bare k 0 lt)) (λ lt. absurd (omega arith)) in
    sym (rw none (take_all (length line) line (omega arith)))

-- no byte but blanks
abbrev is_told : ℕ → Bool
is_told byte = not (is_blank byte)

told_at : (byte : ℕ) (line : List ℕ) (sign blank : Bool) → eqb byte 35 ≡ sign
    → is_blank byte ≡ blank
    → MatchOption (find is_told line) (list_all is_blank (before_comment line) ≡ true)
    (λ first. list_all is_blank (before_comment line) ≡ eqb first 35)
    → MatchOption (find is_told (byte ∷ line))
    (list_all is_blank (before_comment (byte ∷ line)) ≡ true)
    (λ first. list_all is_blank (before_comment (byte ∷ line)) ≡ eqb first 35)
told_at byte line true true e f h = absurd (false≢true (rw (eqb-true byte 35 e) at f))
told_at byte line true false e f h = rw (e, f) (sym e)
told_at byte line false true e f h = rw (e, f, one-add) (rw f h)
told_at byte line false false e f h = rw (e, f, one-add) (rw f (sym e))

-- the first byte that is no blank says whether only blanks stand before a comment
pub first_byte : (line : List ℕ)
    → MatchOption (find is_told line) (list_all is_blank (before_comment line) ≡ true)
    (λ first. list_all is_blank (before_comment line) ≡ eqb first 35)
first_byte [] = refl
first_byte (byte ∷ line) =
    told_at byte line (eqb byte 35) (is_blank byte) refl refl (first_byte line)

-- a text of blanks alone begins with one
suffix_first : (text : List ℕ) → 0 < length text → length text ≤ suffix_len is_blank text
    → is_blank (get_or text 0 0) ≡ true
suffix_first text some all =
    let end : length text - 1 < prefix_len is_blank (reverse text) = omega arith in
    let last = prefix_len_passes is_blank (reverse text) (length text - 1) 0 end in grind (
      arith,
      get_or,
      get_or-reverse,
    )

-- a text that does not begin with a blank does not end with blanks alone
suffix_less : (text : List ℕ) → 0 < length text → is_blank (get_or text 0 0) ≡ false
    → suffix_len is_blank text < length text
suffix_less text some first = grind (arith, ⊎_elim, false≢true, suffix_first, cases_lt)

empty_is : (field front : List ℕ) → front ≡ drop (prefix_len is_blank field) field
    → (t : Bool) → eqb (length front) 0 ≡ t → t ≡ eqb (length (without_blanks field)) 0
empty_is field front is true e = grind arith
empty_is field front is false e =
    let rest = drop (prefix_len is_blank field) field in
    let size : length rest ≡ length front = ap length (sym is) in
    let other = eqb-false (length front) 0 e in
    let some : 0 < length rest = omega arith in
    let within : prefix_len is_blank field < length field =
    omega (arith, some, length-drop (prefix_len is_blank field) field) in
    let place : prefix_len is_blank field + 0 ≡ prefix_len is_blank field = omega arith in
    let first : is_blank (get_or rest 0 0) ≡ false =
    rw (get_or-drop (prefix_len is_blank field) field 0 0, place)
    (prefix_len_stops is_blank field 0 within) in
    sym (ne_eqb (length (without_blanks field)) 0 (λ none. omega (arith, suffix_less rest some first, none, length-take (length rest - suffix_len is_blank rest) rest)))

-- a field is empty where only blanks stand in it
pub empty_if : (field front : List ℕ) → front ≡ drop (prefix_len is_blank field) field
    → eqb (length front) 0 ≡ eqb (length (without_blanks field)) 0
empty_if field front is = empty_is field front is (eqb (length front) 0) refl
