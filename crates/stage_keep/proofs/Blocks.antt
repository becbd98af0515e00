-- Blocks at the front of bytes.
use Rattle.plan_num.proofs.Common.{◌≡◌, ◌≢◌, ℕ, ◌<◌, ◌≤◌, ◌+◌, ◌^◌, List, [], ◌∷◌, ◌++◌, length}
use Rattle.plan_num.proofs.Common.{drop, get_or, refl, ap, sym, subst, ◌∙◌, arith, All, true, not}
use Rattle.plan_num.proofs.Common.{eqb, nat_eq, nat_le, zero, suc, Option, Some, None, decimal}
use Rattle.plan_num.proofs.Common.{codes, slice_get, append_assoc, inl, inr, ◌⊎◌, unwrap_or}
use Rattle.plan_num.proofs.Common.{filter_map, position, prefix_len, range_with_len, IsUtf8}
use Rattle.plan_num.proofs.Common.{AllDigits, decimal_is_IsNumeral, get_or_append_left}
use Rattle.plan_num.proofs.Common.{length-append, All-nil, All-cons, prefix_len_is}
use Rattle.plan_num.proofs.Common.{IsUtf8-from_ascii, ne_eqb, cases_eq, nat_tests, Decides-eqb}
use Rattle.plan_num.proofs.Common.{get_or-append_seam, take-append_seam}
use Rattle.std.proofs.lemmas.Fmt.{IsAscii-decimal}
use Rattle.std.proofs.lemmas.Slice.Eq.{starts_is}
use Rattle.stage_keep.specs.Entries.{opening}
use Rattle.stage_keep.specs.EntryReading.{behind, block_at, block_of_size}
use Rattle.stage_keep.specs.InnerReading.{line_behind, line_of}
use Rattle.stage_keep.proofs.EntriesApart.{not_digit}

-- a decimal has no line feed
no_feed : (ds : List ℕ) → AllDigits 10 ds → All (λ byte. byte ≢ 10) ds
no_feed [] all = All-nil (λ byte. byte ≢ 10)
no_feed (d ∷ ds) all =
    All-cons (λ byte. byte ≢ 10) d ds (λ is. not_digit d is all.0) (no_feed ds all.1)

pub decimal_no_feed : (n : ℕ) → n < 2 ^ 64 → All (λ byte. byte ≢ 10) (decimal n)
decimal_no_feed n small = no_feed (decimal n) (decimal_is_IsNumeral n small).0.1

-- and is text
pub decimal_utf8 : (n : ℕ) → n < 2 ^ 64 → IsUtf8 (decimal n)
decimal_utf8 n small = IsUtf8-from_ascii (decimal n) (IsAscii-decimal n small)

-- where a line ends at a line feed, that is found
pub end_place : (line rest : List ℕ) → All (λ byte. byte ≢ 10) line
    → position (λ byte. eqb byte 10) (line ++ 10 ∷ rest) ≡ Some (length line)
end_place line rest none =
    let whole = length-append line (10 ∷ rest) in
    let at : prefix_len (λ byte. not (eqb byte 10)) (line ++ 10 ∷ rest) ≡ length line = prefix_len_is
    (λ byte. not (eqb byte 10)) (line ++ 10 ∷ rest) (length line) 0 (omega (arith, whole))
    (λ k before. rw (get_or_append_left line (10 ∷ rest) 0 k before)
    (ap not (ne_eqb (get_or line k 0) 10 (none k 0 before)))) (λ within. rw (get_or-append_seam line 10 rest 0) refl) in
    rw at (rw whole (rw (past (length line) (length rest)) refl))
  where
    past : (n m : ℕ) → nat_le (suc n) (n + suc m) ≡ true
    past n m = grind (arith, nat_tests)

pub drop_front : (front rest : List ℕ) → drop (length front) (front ++ rest) ≡ rest
drop_front [] rest = refl
drop_front (x ∷ front) rest = drop_front front rest

-- what is behind a front
pub front_is : (front rest : List ℕ) → behind front (front ++ rest) ≡ Some rest
front_is front rest = grind (arith, starts_is, Decides-eqb, nat_eq, drop_front)

pub front_back : (front bytes rest : List ℕ) → behind front bytes ≡ Some rest
    → bytes ≡ front ++ rest
front_back front bytes rest = grind (arith, nat_eq, starts_is, Decides-eqb, unwrap_or)

module _ {X : Type 0} (f : ℕ → Option X) where
  -- where nothing is found at any number, nothing is
  pub none_given : ((n : ℕ) → f n ≡ None) → (many start : ℕ)
      → slice_get (filter_map f (range_with_len start many)) 0 ≡ None
  none_given none zero start = refl
  none_given none (suc many) start = rw (none start) (none_given none many (start + 1))

  -- where something is found at one number alone, that is
  one_given : (size : ℕ) (x : X) → f size ≡ Some x → ((n : ℕ) → n ≢ size → f n ≡ None)
      → (many start : ℕ) → start ≤ size → size < start + many
      → slice_get (filter_map f (range_with_len start many)) 0 ≡ Some x
  one_given size x is others zero start low high = absurd (omega arith)
  one_given size x is others (suc many) start low high =
      by (cases_eq start size)
      (λ later. one_given size x is others many (start + 1) later (omega arith))
    where
      by : (start ≡ size) ⊎ (start ≢ size)
          → (start + 1 ≤ size → slice_get (filter_map f (range_with_len (start + 1) many)) 0 ≡ Some x)
          → slice_get (filter_map f (range_with_len start (suc many))) 0 ≡ Some x
      by (inl same) more = rw (ap f same ∙ is) refl
      by (inr differ) more = rw (others start differ) (more (omega (arith, differ)))

line_is : (text rest : List ℕ) → All (λ byte. byte ≢ 10) text → line_of (text ++ 10 ∷ rest) ≡ Some text
unfolding line_of
line_is text rest none = rw (end_place text rest none) (ap Some (take-append_seam text (10 ∷ rest)))

pub spread_line : (head ds rest : List ℕ)
    → (((head ++ codes " ") ++ ds) ++ 10 ∷ []) ++ rest ≡ head ++ (32 ∷ (ds ++ 10 ∷ rest))
spread_line head ds rest = grind (arith, append_assoc)

-- the line of an opening
pub opening_line : (head : List ℕ) (size : ℕ) (rest : List ℕ) → size < 2 ^ 64
    → line_behind head (opening head size ++ rest) ≡ Some (decimal size)
unfolding line_behind
opening_line head size rest small = grind (arith, spread_line, front_is, line_is, decimal_no_feed)

-- where a block of a length stands, its line does, with so many bytes behind it
abbrev StandsAt : List ℕ → List ℕ → ℕ → Type 0
StandsAt head bytes size =
    (rest : List ℕ) × (bytes ≡ opening head size ++ rest) × (size ≤ length rest)

sized : (head bytes : List ℕ) (size : ℕ) (block : List ℕ × List ℕ)
    → block_of_size head bytes size ≡ Some block → StandsAt head bytes size
sized head bytes size block = grind (arith, front_back, nat_le)

opening_some : (head rest : List ℕ) (size : ℕ) → size ≤ length rest
    → size < length (opening head size ++ rest)
opening_some head rest size few = grind (arith, length-append)

at_small : (head bytes : List ℕ) (n : ℕ) → StandsAt head bytes n → n < length bytes
at_small head bytes n at =
    subst (λ all. n < length all) (sym at.1) (opening_some head at.0 n at.2)

module _ (head bytes : List ℕ) (short : length bytes < 2 ^ 64) where
  never_sized : (n : ℕ)
      → ((rest : List ℕ) → n < 2 ^ 64 → bytes ≡ opening head n ++ rest → ⊥)
      → block_of_size head bytes n ≡ None
  never_sized n never = by (block_of_size head bytes n) refl
    where
      by : (found : Option (List ℕ × List ℕ)) → block_of_size head bytes n ≡ found
          → found ≡ None
      by None is = refl
      by (Some block) is =
          let at = sized head bytes n block is in
          absurd (never at.0 (omega (arith, short, at_small head bytes n at)) at.1)

  -- where the line of no length stands, no block does
  pub block_none : ((n : ℕ) (rest : List ℕ) → n < 2 ^ 64
      → bytes ≡ opening head n ++ rest → ⊥) → block_at head bytes ≡ None
  block_none never =
      none_given (block_of_size head bytes) (λ n. never_sized n (never n)) (length bytes) 0

  -- where the line of one length alone can stand, the block is that of this length
  pub block_is : (size : ℕ) → ((n : ℕ) (rest : List ℕ) → n < 2 ^ 64
      → bytes ≡ opening head n ++ rest → n ≡ size)
      → block_at head bytes ≡ block_of_size head bytes size
  block_is size only = by (block_of_size head bytes size) refl
    where
      other : (n : ℕ) → n ≢ size → block_of_size head bytes n ≡ None
      other n differ = never_sized n (λ rest small at. differ (only n rest small at))

      each : block_of_size head bytes size ≡ None → (n : ℕ) → (n ≡ size) ⊎ (n ≢ size)
          → block_of_size head bytes n ≡ None
      each is n (inl same) = ap (block_of_size head bytes) same ∙ is
      each is n (inr differ) = other n differ

      by : (found : Option (List ℕ × List ℕ)) → block_of_size head bytes size ≡ found
          → block_at head bytes ≡ found
      by None is = grind (arith, none_given, each, cases_eq)
      by (Some block) is =
          one_given (block_of_size head bytes) size block is other (length bytes) 0
          (omega arith) (omega (arith, at_small head bytes size (sized head bytes size block is)))
