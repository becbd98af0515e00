-- Words of which some bits stay.
use Rattle.plan_num.proofs.Common.{◌≡◌, ◌∙◌, ℕ, ◌+◌, ◌*◌, ◌%◌, bit_and, true, false, ◌&&◌, get_or}
use Rattle.plan_num.proofs.Common.{slice_set, ap, arith, false≢true, set-get_or, and_le_l}
use Rattle.bit_rows.specs.Bits.{FitsAt, has_bit, with_word, words_of}
use Rattle.bit_rows.proofs.WordBits.{and_bit}
use Rattle.pesp.specs.Marks.{AreMarks, KeepsBits, Marks, Tracked, word_at}

pub word_fits : (sets : Marks) (place word : ℕ) → AreMarks sets
    → word ≡ get_or sets.words place 0 → FitsAt sets.rows sets.columns place word
word_fits sets place word are was event time low high few at = grind arith

pub kept_fits : (rows columns place word keep : ℕ) → FitsAt rows columns place word
    → FitsAt rows columns place (bit_and word keep)
kept_fits rows columns place word keep fit event time low high few at =
    and_bit word keep (time % 64)
    ∙ ap (λ b. b && has_bit keep (time % 64)) (fit event time low high few at)

module _ (before : Tracked) (event index place word keep : ℕ) (are : AreMarks before.sets)
    (at : place ≡ event * words_of before.sets.columns + index)
    (was : word ≡ get_or before.sets.words place 0) where
  here : word ≡ word_at before.sets event index
  here = was ∙ ap (λ place. get_or before.sets.words place 0) at

  pub all_kept : bit_and word keep ≡ word → KeepsBits before before event index keep false
  all_kept same = grind (arith, slice_set, bit_and, here, set-get_or, false≢true)

  pub some_taken : (after : Tracked) → (bit_and word keep ≡ word → ⊥)
      → after ≡ record {
        sets = with_word before.sets place (bit_and word keep);
        saved = before.saved;
      }
      → KeepsBits before after event index keep true
  some_taken after other is = grind (arith, bit_and, here, false≢true, and_le_l)
