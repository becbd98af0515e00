-- Words of times in a period that goes round.
use Rattle.plan_num.proofs.Common.{◌≡◌, ◌∙◌, ◌⊎◌, inl, inr, ℕ, ◌+◌, ◌-◌, ◌*◌, ◌/◌, ◌%◌, ◌^◌, ◌<◌}
use Rattle.plan_num.proofs.Common.{◌≤◌, ◌==◌, nat_lt, bit_or, Bool, false, ◌&&◌, ◌||◌, List, length}
use Rattle.plan_num.proofs.Common.{get_or, slice_set, replicate, ap, sym, subst, arith, mod-add-mod}
use Rattle.plan_num.proofs.Common.{cases_eq, cases_lt, eq-eqb, lt-ltb, le-ltb, ne_eqb}
use Rattle.plan_num.proofs.Common.{get_or-set_other, get_or-set_same, get_or-replicate, get_or_past}
use Rattle.std.proofs.Math.Nat.{add-mod_left, mod-eq_of_lt, mod-lt}
use Rattle.std.proofs.Math.Bool.{and-false as and_none}
use Rattle.bit_rows.specs.Bits.{has_bit, marked, one_bit, words_of}
use Rattle.bit_rows.proofs.WordBits.{bit_of_one, or_bit, shl_high, shl_low, zero_bit}
use Rattle.pesp.specs.Marks.{Marks, any_below, is_left}
use Rattle.pesp.specs.Revising.{IsClear, reaches, turned_to}
use Rattle.bit_rows.proofs.WordBits.{or_none as or_false}
use Rattle.pesp.proofs.AnyBelow.{any_one, any_same, joined_below}

-- ---- the bits from a time on

module _ (period from start bit : ℕ) (times : List ℕ) (word : ℕ) (opens : start ≡ from % period)
    (within : start < period) (small : bit < period) (is : has_bit word bit ≡ marked times (start
    + bit)) where
  at : (from + bit) % period ≡ (start + bit) % period
  at = sym (ap (λ start. (start + bit) % period) opens ∙ mod-add-mod from period bit)

  near : start + bit < period → has_bit word bit ≡ marked times ((from + bit) % period)
  near low = is ∙ sym (ap (marked times) (at ∙ mod-eq_of_lt low))

  pub round_whole : 64 ≤ period - start → bit < 64
      → has_bit word bit ≡ marked times ((from + bit) % period)
  round_whole much low = near (omega (arith, much, low))

  pub round_bit : bit < 64 → IsClear period times
      → has_bit (bit_or word (get_or times 0 0 * 2 ^ (period - start) % 2 ^ 64)) bit
      ≡ marked times ((from + bit) % period)
  round_bit low clear =
      or_bit word (get_or times 0 0 * 2 ^ (period - start) % 2 ^ 64) bit
      ∙ elim (cases_lt bit (period - start)) [
        | inl inside ↦ grind (arith, or_false, shl_low, get_or, near)
        | inr outside ↦
            let rest : ℕ = bit - (period - start) in
            let again : start + bit ≡ period + rest = omega (arith, outside, within) in
            let few : rest < period = omega (arith, small, within) in
            let index : rest / 64 ≡ 0 = omega (arith, low) in
            let place : rest % 64 ≡ rest = omega (arith, low) in
            (λ i. (is ∙ clear (start + bit) (omega (arith, outside, within))) i
            || shl_high (get_or times 0 0) (period - start) bit low outside i)
            ∙ sym (ap (marked times) (at ∙ ap (λ n. n % period) again ∙ add-mod_left period rest
            ∙ mod-eq_of_lt few)
            ∙ (λ i. has_bit (get_or times (index i) 0) (place i)))
      ]

-- ---- words to which turned ones are added

pub and_under : (n k : ℕ) (x y : Bool) → (n < k → x ≡ y) → (nat_lt n k && x) ≡ (nat_lt n k && y)
and_under n k x y same = grind arith

abbrev pub added_below : ℕ → ℕ → List ℕ → List ℕ → ℕ → ℕ → Bool
added_below end period old times by time =
    marked old time || (nat_lt time end && turned_to period times by time)

pub none_added : (period by : ℕ) (old times : List ℕ) (time : ℕ)
    → marked old time ≡ added_below (64 * 0) period old times by time
none_added period by old times time = grind arith

pub all_added : (period by index : ℕ) (old times : List ℕ) (time : ℕ) → words_of period ≤ index
    → added_below (64 * index) period old times by time ≡ (marked old time
    || turned_to period times by time)
all_added period by index old times time all = grind (
  arith,
  cases_lt,
  nat_lt,
  lt-ltb,
  le-ltb,
  and_none,
)

module _ (period by index : ℕ) (old all times : List ℕ) (cut : ℕ) (low : index < words_of period)
    (here : index < length all)
    (so : (time : ℕ) → marked all time ≡ added_below (64 * index) period old times by time)
    (cut_is : (bit : ℕ) → bit < 64 → has_bit cut bit ≡ (nat_lt bit (period - 64 * index)
    && marked times ((64 * index + by + bit) % period))) where
  abbrev more : List ℕ
  more = slice_set all index (bit_or (get_or all index 0) cut)

  elsewhere : (time : ℕ) → (time / 64 ≡ index → ⊥)
      → nat_lt time (64 * index) ≡ nat_lt time (64 * (index + 1))
  elsewhere time other = grind (arith, cases_lt, lt-ltb, le-ltb)

  cut_here : (time : ℕ) → time / 64 ≡ index
      → has_bit cut (time % 64) ≡ turned_to period times by time
  cut_here time own =
      let at : 64 * index + by + time % 64 ≡ time + by = omega (arith, own) in
      cut_is (time % 64) (omega arith)
      ∙ (λ i. inside time own i && marked times (at i % period))
    where
      inside : (time : ℕ) → time / 64 ≡ index
          → nat_lt (time % 64) (period - 64 * index) ≡ nat_lt time period
      inside time own = grind (arith, cases_lt, lt-ltb, le-ltb)

  pub one_added : (time : ℕ)
      → marked more time ≡ added_below (64 * (index + 1)) period old times by time
  one_added time = elim (cases_eq (time / 64) index) [
    | inl own ↦ grind (
      arith,
      or_false,
      le-ltb,
      get_or,
      get_or-set_same,
      bit_or,
      or_bit,
      cut_here,
      lt-ltb,
    )
    | inr other ↦ grind (arith, get_or-set_other, bit_or, get_or, elsewhere)
  ]

-- ---- windows

abbrev pub zeros : List ℕ
zeros = replicate 13 0

pub no_bits : (time : ℕ) → marked zeros time ≡ false
no_bits time = grind (arith, zero_bit, get_or, cases_lt, get_or-replicate, get_or_past)

pub one_marked : (time other : ℕ) → time < 720
    → marked (slice_set zeros (time / 64) (one_bit (time % 64))) other ≡ (other == time)
one_marked time other few = elim (cases_eq (other / 64) (time / 64)) [
  | inr apart ↦
      ap (λ word. has_bit word (other % 64)) (get_or-set_other zeros (time / 64) (other / 64)
      (one_bit (time % 64)) 0 apart)
      ∙ no_bits other
      ∙ sym (ne_eqb other time (λ same. apart (ap (λ n. n / 64) same)))
  | inl own ↦
      let within : time / 64 < 13 = omega (arith, few) in
      ap (λ i. has_bit (get_or (slice_set zeros (time / 64) (one_bit (time % 64))) i 0) (other %
      64)) own
      ∙ ap (λ word. has_bit word (other % 64)) (get_or-set_same zeros (time / 64) (one_bit (time %
      64)) 0 within)
      ∙ bit_of_one (time % 64) (other % 64) (omega arith)
      ∙ same_time own (cases_eq (other % 64) (time % 64))
]
  where
    same_time : other / 64 ≡ time / 64 → (other % 64 ≡ time % 64) ⊎ (other % 64 ≡ time % 64 → ⊥)
        → (other % 64 == time % 64) ≡ (other == time)
    same_time own (inl same) = grind (arith, eq-eqb)
    same_time own (inr apart) = grind (arith, ne_eqb)

pub only_turned : (period own : ℕ) (times : List ℕ) (by time : ℕ) → own ≡ period
    → (marked zeros time || turned_to own times by time) ≡ turned_to period times by time
only_turned period own times by time same =
    ap (λ b. b || turned_to own times by time) (no_bits time)
    ∙ ap (λ (period : ℕ). turned_to period times by time) same

pub clear_at : (period own : ℕ) (times : List ℕ) → own ≡ period → IsClear period times
    → IsClear own times
clear_at period own times same clear = subst (λ (period : ℕ). IsClear period times) (sym same) clear

pub left_twice : (sets : Marks) (event time : ℕ)
    → is_left sets event time ≡ (nat_lt time sets.columns && is_left sets event time)
left_twice sets event time = grind (arith, nat_lt)

-- for each time of a period whether one is left among so many from it on
abbrev pub IsWide : ℕ → (ℕ → Bool) → ℕ → List ℕ → Type 0
IsWide period left wide times = (time : ℕ) → marked times time
    ≡ (nat_lt time period && any_below (λ minutes. left ((time + minutes) % period)) wide)

pub wide_clear : (period : ℕ) (left : ℕ → Bool) (wide : ℕ) (times : List ℕ)
    → IsWide period left wide times → IsClear period times
wide_clear period left wide times so time high = grind arith

pub wide_begun : (period : ℕ) (left : ℕ → Bool) (times : List ℕ)
    → ((time : ℕ) → marked times time ≡ (nat_lt time period && left time))
    → IsWide period left 1 times
wide_begun period left times is time = grind (
  arith,
  cases_lt,
  at,
  mod-eq_of_lt,
  nat_lt,
  any_one,
  le-ltb,
)

module _ (period : ℕ) (left : ℕ → Bool) (wide : ℕ) (times : List ℕ) (some : 1 ≤ period)
    (so : IsWide period left wide times) where
  -- what is behind a time
  there : (by time : ℕ) → marked times ((time + by) % period)
      ≡ any_below (λ minutes. left ((time + by + minutes) % period)) wide
  there by time = grind (arith, mod-lt, lt-ltb, any_same, mod-add-mod)

  pub wide_turn : (by : ℕ) (more : List ℕ) → by ≤ wide
      → ((time : ℕ) → marked more time ≡ (marked times time || turned_to period times by time))
      → IsWide period left (wide + by) more
  wide_turn by more few is time = elim (cases_lt time period) [
    | inr high ↦ grind (arith, le-ltb)
    | inl low ↦
        is time
        ∙ (λ i. (so time ∙ ap (λ b. b
        && any_below (λ minutes. left ((time + minutes) % period)) wide)
        (lt-ltb time period low)) i
        || (ap (λ b. b && marked times ((time + by) % period)) (lt-ltb time period low)
        ∙ there by time
        ∙ any_same _ (λ minutes. left ((time + (by + minutes)) % period)) wide (λ minutes. ap (λ
        n. left (n % period)) (sum minutes))) i)
        ∙ joined_below (λ minutes. left ((time + minutes) % period)) wide by few
        ∙ sym (ap (λ b. b && any_below (λ minutes. left ((time + minutes) % period)) (wide + by))
        (lt-ltb time period low))
  ]
    where
      sum : (minutes : ℕ) → time + by + minutes ≡ time + (by + minutes)
      sum minutes = omega arith

  pub wide_ended : (offset width : ℕ) (reached : List ℕ) → wide ≡ width + 1
      → ((time : ℕ) → marked reached time ≡ turned_to period times offset time)
      → (time : ℕ) → time < period → marked reached time ≡ reaches period left offset width time
  wide_ended offset width reached all is time low =
      is time ∙ ap (λ b. b && marked times ((time + offset) % period)) (lt-ltb time period low)
      ∙ there offset time ∙ ap (any_below (λ minutes. left ((time + offset + minutes) % period)))
      all
