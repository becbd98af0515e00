-- Marks of places as bits of words, with a bit for each word without which no mark stands in it.
use Rattle.plan_num.proofs.Common.{◌≡◌, ◌≢◌, ◌∙◌, ℕ, zero, suc, ◌+◌, ◌*◌, ◌/◌, ◌%◌, ◌<◌, ◌≤◌, Bool}
use Rattle.plan_num.proofs.Common.{false, List, ◌∷◌, length, map, get_or, slice_set, None, Some}
use Rattle.plan_num.proofs.Common.{Option, refl, ap, sym, arith, replicate, range_with_len}
use Rattle.plan_num.proofs.Common.{get_or_past, get_or-set_other, get_or-set_same, length-set}
use Rattle.plan_num.proofs.Common.{get_or-map-range_with_len, length-map-range_with_len}
use Rattle.bit_rows.specs.Bits.{IsFirstBit, has_bit, marked, with_bit}
use Rattle.bit_rows.proofs.WordBits.{with_other, with_same, zero_bit}
use Rattle.bit_rows.specs.Markings.{AreBlocked, IsNext, IsNextBit, IsNextWord, IsWithin, marks_of}
use Rattle.bit_rows.proofs.Cases.{by_less, by_same}
use Rattle.bit_rows.proofs.Places.{told_anew}

-- ---- one place

pub size_is : (words : List ℕ) (count : ℕ) → length (marks_of words count) ≡ count
size_is words count = length-map-range_with_len (marked words) 0 count

mark_at : (words : List ℕ) (count k : ℕ) → k < count → get_or (marks_of words count) k false ≡ marked words k
mark_at words count k inside = get_or-map-range_with_len (marked words) 0 count k k false inside (omega arith)

mark_past : (words : List ℕ) (count k : ℕ) → count ≤ k → get_or (marks_of words count) k false ≡ false
mark_past words count k past =
    get_or_past (marks_of words count) k false (omega (arith, past, size_is words count))

-- ---- no place

zeros_at : (n k : ℕ) → get_or {A = ℕ} (replicate n 0) k 0 ≡ 0
zeros_at zero k = refl
zeros_at (suc n) zero = refl
zeros_at (suc n) (suc k) = zeros_at n k

all_false : (f : ℕ → Bool) (a n : ℕ) → ((k : ℕ) → f k ≡ false) → map f (range_with_len a n) ≡ replicate n false
all_false f a zero none = refl
all_false f a (suc n) none = λ i. none a i ∷ all_false f (a + 1) n none i

pub none_marked : (words : List ℕ) (size count : ℕ) → words ≡ replicate size 0
    → marks_of words count ≡ replicate count false
none_marked words size count are =
    all_false (marked words) 0 count
    (λ k. ap (λ words. has_bit (get_or words (k / 64) 0) (k % 64)) are
    ∙ ap (λ word. has_bit word (k % 64)) (zeros_at size (k / 64)) ∙ zero_bit (k % 64))

-- ---- one bit is put

module _ (words new : List ℕ) (place : ℕ) (is : Bool)
    (put : new ≡ slice_set words (place / 64) (with_bit (get_or words (place / 64) 0) (place % 64) is)) where
  abbrev word : ℕ
  word = with_bit (get_or words (place / 64) 0) (place % 64) is

  pub put_size : length new ≡ length words
  put_size = ap length put ∙ length-set words (place / 64) word

  pub word_there : (k : ℕ) → k ≢ place / 64 → get_or new k 0 ≡ get_or words k 0
  word_there k other =
      ap (λ words. get_or words k 0) put ∙ get_or-set_other words (place / 64) k word 0 other

  word_here : place / 64 < length words → get_or new (place / 64) 0 ≡ word
  word_here inside =
      ap (λ words. get_or words (place / 64) 0) put ∙ get_or-set_same words (place / 64) word 0 inside

  pub put_same : place / 64 < length words → marked new place ≡ is
  put_same inside =
      ap (λ w. has_bit w (place % 64)) (word_here inside)
      ∙ with_same (get_or words (place / 64) 0) (place % 64) is (omega arith)

  pub put_other : place / 64 < length words → (k : ℕ) → k ≢ place → marked new k ≡ marked words k
  put_other inside k other =
      by_same (k / 64) (place / 64)
      (λ same.
      ap (λ n. has_bit (get_or new n 0) (k % 64)) same ∙ ap (λ w. has_bit w (k % 64)) (word_here inside)
      ∙ with_other (get_or words (place / 64) 0) (place % 64) (k % 64) is (omega arith) (omega arith)
      (λ bit. other (omega (arith, same, bit)))
      ∙ sym (ap (λ n. has_bit (get_or words n 0) (k % 64)) same))
      (λ apart. ap (λ w. has_bit w (k % 64)) (word_there (k / 64) apart))

  pub marks_put : (count : ℕ) → place / 64 < length words → place < count
      → marks_of new count ≡ slice_set (marks_of words count) place is
  marks_put count inside there =
      sym (told_anew (marked words) (marked new) 0 count place is there
      (ap (marked new) (zeroed place) ∙ put_same inside)
      (λ k within apart. ap (marked new) (zeroed k) ∙ put_other inside k apart ∙ sym (ap (marked words) (zeroed k))))
    where
      zeroed : (k : ℕ) → 0 + k ≡ k
      zeroed k = omega arith

-- the bit of its word with it
module _ (words new : List ℕ) (place : ℕ) (is : Bool)
    (put : new ≡ slice_set words (place / 64) (with_bit (get_or words (place / 64) 0) (place % 64) is)) where
  pub still_blocked : (count : ℕ) (blocks lifted : List ℕ) (some : Bool) → AreBlocked count words blocks
      → (some ≡ false → get_or new (place / 64) 0 ≡ 0)
      → lifted ≡ slice_set blocks (place / 64 / 64)
      (with_bit (get_or blocks (place / 64 / 64) 0) (place / 64 % 64) some)
      → place / 64 < length words → AreBlocked count new lifted
  still_blocked count blocks lifted some are none lift inside = record {
    room = omega (arith, are.room, put_size words new place is put);
    few = omega (arith, are.few, put_size words new place is put);
    covers = λ k within.
        let old = are.covers k (omega (arith, within, put_size words new place is put)) in
        let own = (are.covers (place / 64) inside).0 in
        let size = lifted_size in (
          omega (arith, old.0, size),
          λ bare.
              by_same k (place / 64)
              (λ same. ap (λ n. get_or new n 0) same
              ∙ none (sym (lifted_same own) ∙ sym (ap (marked lifted) same) ∙ bare))
              (λ apart. word_there words new place is put k apart ∙ old.1 (sym (lifted_other own k apart) ∙ bare)),
        );
  }
    where
      lifted_size : length lifted ≡ length blocks
      lifted_size = ap length lift
          ∙ length-set blocks (place / 64 / 64) (with_bit (get_or blocks (place / 64 / 64) 0) (place / 64 % 64) some)

      lifted_same : place / 64 / 64 < length blocks → marked lifted (place / 64) ≡ some
      lifted_same own = put_same blocks lifted (place / 64) some lift own

      lifted_other : place / 64 / 64 < length blocks → (k : ℕ) → k ≢ place / 64 → marked lifted k ≡ marked blocks k
      lifted_other own = put_other blocks lifted (place / 64) some lift own

-- ---- the next word and the next bit

module _ (words : List ℕ) where
  in_word : (place : ℕ) → IsFirstBit (get_or words (place / 64) 0) (place % 64) None
      → (k : ℕ) → place ≤ k → k / 64 ≡ place / 64 → marked words k ≡ false
  in_word place none k from same =
      ap (λ n. has_bit (get_or words n 0) (k % 64)) same
      ∙ none (k % 64) (omega (arith, from, same)) (omega arith)

  zero_word : (k : ℕ) → get_or words (k / 64) 0 ≡ 0 → marked words k ≡ false
  zero_word k none = ap (λ w. has_bit w (k % 64)) none ∙ zero_bit (k % 64)

  pub bits_empty : (place next : ℕ) → IsFirstBit (get_or words (place / 64) 0) (place % 64) None
      → IsNextWord words (place / 64 + 1) (Some next)
      → (k : ℕ) → place ≤ k → k < 64 * next → marked words k ≡ false
  bits_empty place next none behind k from to =
      by_same (k / 64) (place / 64) (in_word place none k from)
      (λ apart. zero_word k (behind.2 (k / 64) (omega (arith, from, apart)) (omega (arith, to))))

  pub bits_end : (place : ℕ) → IsFirstBit (get_or words (place / 64) 0) (place % 64) None
      → IsNextWord words (place / 64 + 1) None
      → (k : ℕ) → place ≤ k → marked words k ≡ false
  bits_end place none behind k from =
      by_same (k / 64) (place / 64) (in_word place none k from)
      (λ apart. zero_word k (behind (k / 64) (omega (arith, from, apart))))

  pub bit_past : (k : ℕ) → length words ≤ k / 64 → marked words k ≡ false
  bit_past k past = zero_word k (get_or_past words (k / 64) 0 past)

  -- the first place that is marked, where so many are there
  pub next_is : (count from : ℕ) (next : Option ℕ) → IsNextBit words from next → (result : Option ℕ)
      → IsWithin count next result → IsNext (marks_of words count) from result
  next_is count from None told None within =
      λ k after. by_less k count (λ inside. mark_at words count k inside ∙ told k after) (λ past. mark_past words count k past)
  next_is count from None told (Some at) within = absurd within
  next_is count from (Some next) told None past =
      λ k after. by_less k count
      (λ inside. mark_at words count k inside ∙ told.2 k after (omega (arith, inside, past)))
      (λ more. mark_past words count k more)
  next_is count from (Some next) told (Some at) within =
      let same = within.1 in (
        omega (arith, told.0, same),
        omega (arith, within.0, same, size_is words count),
        mark_at words count at (omega (arith, within.0, same)) ∙ ap (marked words) same ∙ told.1,
        λ k after before. mark_at words count k (omega (arith, before, within.0, same)) ∙ told.2 k after (omega (arith, before, same)),
      )
