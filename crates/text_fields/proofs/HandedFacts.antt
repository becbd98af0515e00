-- Handing out what is ready piece by piece.
use Rattle.plan_num.proofs.Common.{◌≡◌, ℕ, ◌+◌, ◌≤◌, List, [], ◌++◌, length, take, drop, ap, sym}
use Rattle.plan_num.proofs.Common.{◌∙◌, append_assoc, arith, false, length-append, min, ◌-◌, Bor}
use Rattle.plan_num.proofs.Common.{Option, Some, refl, option_copied, length-take-le}
use Rattle.plan_num.proofs.Common.{take-append-le, take-append-drop, take_all, take_rest}
use Rattle.plan_num.proofs.Common.{take-append-add}
use borrow.Rule.Slice.PartMut.{put_mid}
use Rattle.text_fields.specs.Rows.{parts_left}
use Rattle.text_fields.specs.Told.{given}
use Rattle.text_fields.specs.Handed.{fed}
use Rattle.text_fields.proofs.GivenFacts.{given_none}
use Rattle.text_fields.proofs.RowsLeft.{no_parts}

fed_none : fed [] ≡ []
unfolding fed
fed_none = refl

-- where nothing is ready and no text is left, nothing is left
pub nothing_left : (ready : List ℕ) (left : Option (Bor (List ℕ))) → ready ≡ []
    → ((text : Bor (List ℕ)) → left ≡ Some text → ⊥)
    → ready ++ fed (given false (parts_left (option_copied left))) ≡ []
nothing_left ready left none over = rw (none, no_parts left over, given_none false) fed_none

-- what is put behind the bytes so far comes next
module _ (buffer behind : List ℕ) (filled room count : ℕ) (within : filled ≤ length buffer)
    (few : count ≤ length behind) where
  filled_more : take (filled + count) (put_mid filled room buffer behind)
      ≡ take filled buffer ++ take count behind
  filled_more = grind (arith, length-take-le, take-append-add, take-append-le)

  pub given_more : (whole left next : List ℕ) → whole ≡ take filled buffer ++ left
      → left ≡ take count behind ++ next
      → whole ≡ take (filled + count) (put_mid filled room buffer behind) ++ next
  given_more whole left next given more = grind (arith, append_assoc, filled_more)

  pub within_more : filled + count ≤ length (put_mid filled room buffer behind)
  within_more = grind (arith, length-append, length-take-le)

-- what is copied comes before what is left of what was ready
pub copied_front : (ready to behind after : List ℕ) (count : ℕ)
    → count ≡ min (length ready) (length to) → behind ≡ take count ready ++ drop count to
    → ready ++ after
    ≡ take count behind ++ (take (length ready - count) (drop count ready) ++ after)
copied_front ready to behind after count is put =
    let front : length (take count ready) ≡ count = length-take-le count ready (omega arith) in
    let same : take count behind ≡ take count ready =
    ap (take count) put ∙ take-append-le count (take count ready) (drop count to) (omega arith)
    ∙ take_all count (take count ready) (omega arith) in
    rw (same, take_rest ready count) (
    ap (λ (bytes : List ℕ). bytes ++ after) (sym (take-append-drop count ready))
    ∙ append_assoc (take count ready) (drop count ready) after
    )
