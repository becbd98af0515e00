-- A byte that does not stand in a piece stands behind it.
use Rattle.plan_num.proofs.Common.{◌≡◌, ℕ, ◌+◌, ◌-◌, ◌≤◌, List, [], ◌∷◌, ◌++◌, length, take, drop}
use Rattle.plan_num.proofs.Common.{ap, sym, ◌∙◌, Bool, true, false, cond, ◌||◌, not, arith}
use Rattle.plan_num.proofs.Common.{zero-add, length-drop, length-take, list_any, position_or_len}
use Rattle.plan_num.proofs.Common.{take-append-drop}

module _ (test : ℕ → Bool) where
  skip_one : (t : Bool) (any : Bool) (place behind : ℕ) → (any ≡ false → place ≡ behind)
      → (t || any) ≡ false → cond (not t) (1 + place) 0 ≡ 1 + behind
  skip_one true any place behind more none = cc
  skip_one false any place behind more none = ap (λ n. 1 + n) (more none)

  skip : (front rest : List ℕ) → list_any test front ≡ false
      → position_or_len test (front ++ rest) ≡ length front + position_or_len test rest
  skip [] rest none = sym (zero-add _)
  skip (byte ∷ front) rest none =
      let more = skip_one (test byte) (list_any test front) (position_or_len test (front ++ rest))
      (length front + position_or_len test rest) (skip front rest) none in grind arith

  -- so the place in a text is found in what is left of it
  pub skip_piece : (text rest front behind : List ℕ) (n : ℕ) → n ≤ length rest → front ≡ take n rest
      → behind ≡ drop n rest → list_any test front ≡ false → length rest ≤ length text
      → position_or_len test text ≡ length text - length rest + position_or_len test rest
      → (length behind ≤ length text) × (position_or_len test text
      ≡ length text - length behind + position_or_len test behind)
  skip_piece text rest front behind n long cut left none within same =
      let parts : position_or_len test rest ≡ length (take n rest) + position_or_len test
      (drop n rest) =
      ap (position_or_len test) (sym (take-append-drop n rest))
      ∙ skip (take n rest) (drop n rest) (rw cut at none) in
      rw left (
        omega (arith, length-drop n rest),
        omega (arith, length-drop n rest, length-take n rest, parts, same),
      )
