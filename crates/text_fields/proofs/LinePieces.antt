-- The pieces of a line, one after the other.
use Rattle.plan_num.proofs.Common.{◌≡◌, ℕ, suc, ◌+◌, ◌-◌, ◌<◌, ◌≤◌, List, [], ◌∷◌, length, take}
use Rattle.plan_num.proofs.Common.{drop, get_or, refl, ap, sym, ◌∙◌, Bool, true, false, eqb, ltb}
use Rattle.plan_num.proofs.Common.{arith, filter, position_or_len, ltb-true, ltb-false, take_rest}
use Rattle.plan_num.proofs.Common.{take_all, length-filter, fails_before_first, slice_split_none}
use Rattle.plan_num.proofs.Common.{slice_split_first, length-slice_split}
use Rattle.text_fields.specs.Rows.{pieces}

-- a semicolon
abbrev ends_piece : ℕ → Bool
ends_piece byte = eqb byte 59

-- one piece more than semicolons
pub pieces_counted : (line : List ℕ) (count : ℕ) → count ≡ length (filter ends_piece line)
    → count + 1 ≡ length (pieces line)
pieces_counted line count e =
    ap (λ n. n + 1) (e ∙ length-filter ends_piece line) ∙ sym (length-slice_split ends_piece line)

module _ (line : List ℕ) (end : ℕ) (is : end ≡ position_or_len ends_piece line) where
  -- without a semicolon the line is one piece
  whole : length line ≤ end → pieces line ≡ line ∷ []
  whole past = grind (arith, slice_split_none, fails_before_first)

  -- with one the first piece ends there
  cut : end < length line → pieces line ≡ take end line
      ∷ pieces (take (length line - (end + 1)) (drop (end + 1) line))
  cut within = rw (take_rest line (end + 1), is) (slice_split_first ends_piece line 0 (rw is at within))

  module _ (all : List ℕ) (left : ℕ) (same : get_or (pieces line) left [] ≡ all) where
    -- a piece that is not the first stands behind the first semicolon
    pub piece_behind : (next : ℕ) → left ≡ suc next → end < length line
        → get_or (pieces (take (length line - (end + 1)) (drop (end + 1) line))) next [] ≡ all
    piece_behind next more within = grind (arith, get_or, cut)

    -- or nowhere
    pub piece_nowhere : (next : ℕ) → left ≡ suc next → length line ≤ end → [] ≡ all
    piece_nowhere next more past = grind (arith, get_or, whole)

    first_if : (t : Bool) → ltb end (length line) ≡ t → left ≡ 0 → take end line ≡ all
    first_if true e first = grind (arith, get_or, cut, ltb-true)
    first_if false e first = grind (arith, take_all, ltb-false, get_or, whole)

    -- the first piece ends at the first semicolon
    pub piece_first : left ≡ 0 → take end line ≡ all
    piece_first first = first_if (ltb end (length line)) refl first
