-- Flags of events as the bits of words.
use Rattle.plan_num.proofs.Common.{◌≡◌, ◌∙◌, ◌⊎◌, inl, inr, is_some, Option, ℕ, ◌+◌, ◌-◌, ◌*◌, ◌/◌}
use Rattle.plan_num.proofs.Common.{◌<◌, ◌≤◌, ◌==◌, Bool, true, false, if◌then◌else◌, min, map}
use Rattle.plan_num.proofs.Common.{length, slice_set, Some, None, refl, ap, sym, arith}
use Rattle.plan_num.proofs.Common.{range_with_len, cases_eq, cases_lt, eq-eqb, le-ltb, lt-ltb}
use Rattle.plan_num.proofs.Common.{ne_eqb, get_or-set_at, get_or-set_other, get_or_past}
use Rattle.plan_num.proofs.Common.{get_or-map-range_with_len, length-map-range_with_len}
use Rattle.bit_rows.specs.Bits.{Bits, IsLastBit, has, has_bit, word_of}
use Rattle.bit_rows.proofs.RowBits.{bit_there}
use Rattle.pesp.specs.Flags.{Flags, IsClearOutside, IsLastFlag, flags_of, has_changed}
use Rattle.pesp.specs.Flags.{some_changed}
use Rattle.pesp.proofs.AnyBelow.{fails_below, passes_below}
use Rattle.pesp.proofs.Partners.{set_on_range}

-- ---- the flags of a row of bits

pub size_is : (bits : Bits) (flags : Flags) → flags_of bits ≡ flags → bits.columns ≡ length flags
size_is bits flags is =
    sym (length-map-range_with_len (has bits 0) 0 bits.columns) ∙ ap length is

-- none is set behind the last event
pub flag_is : (bits : Bits) (event : ℕ) → has_changed (flags_of bits) event ≡ has bits 0 event
flag_is bits event = grind (
  arith,
  cases_lt,
  get_or-map-range_with_len,
  length-map-range_with_len,
  get_or_past,
  bit_there,
  le-ltb,
)

pub flags_in : (bits : Bits) (flags : Flags) → flags_of bits ≡ flags → (index word : ℕ)
    → ((event : ℕ) → event / 64 ≡ index → word_of bits 0 event ≡ word) → (bit : ℕ) → bit < 64
    → 64 * index + bit < length flags → has_bit word bit ≡ has_changed flags (64 * index + bit)
flags_in bits flags view index word is bit small inside = grind (arith, size_is, flag_is, lt-ltb)

-- ---- one flag

module _ (bits now : Bits) (event : ℕ) (flag : Bool) (size : now.columns ≡ bits.columns)
    (put : (other : ℕ) → has now 0 other ≡ (if other == event then flag else has bits 0 other))
  where
    this_bit : has now 0 event ≡ flag
    this_bit = put event ∙ ap (λ b. if b then flag else has bits 0 event) (eq-eqb event event refl)

    other_bit : (other : ℕ) → (other ≡ event → ⊥) → has now 0 other ≡ has bits 0 other
    other_bit other apart =
        put other ∙ ap (λ b. if b then flag else has bits 0 other) (ne_eqb other event apart)

    pub flag_put : event < bits.columns → flags_of now ≡ slice_set (flags_of bits) event flag
    flag_put low =
        ap (λ n. map (has now 0) (range_with_len 0 n)) size
        ∙ set_on_range (has bits 0) (has now 0) flag 0 bits.columns event event (omega arith) low
        this_bit other_bit

    pub outside_put : (low high less more : ℕ) → IsClearOutside low high bits → less ≤ low
        → less ≤ event / 64 → high ≤ more → event / 64 + 1 ≤ more → IsClearOutside less more now
    outside_put low high less more so one two three four other (inl below) = grind arith
    outside_put low high less more so one two three four other (inr above) = grind arith

-- ---- the last flag before one

-- none is set in the words so far, from the last one on
abbrev pub NoneFrom : Flags → ℕ → ℕ → Type 0
NoneFrom flags end index =
    (event : ℕ) → 64 * index ≤ event → event < end → has_changed flags event ≡ false

module _ (flags : Flags) (end low high index : ℕ)
    (clear : (event : ℕ) → (event / 64 < low) ⊎ (high ≤ event / 64)
    → has_changed flags event ≡ false) where
  pub none_behind : index ≡ min ((end + 63) / 64) high → NoneFrom flags end index
  none_behind is event above less = grind arith

  pub none_before : index ≤ low → NoneFrom flags end index → IsLastFlag flags end None
  none_before few so event less = grind arith

module _ (flags : Flags) (index end word : ℕ) (within : end ≤ length flags)
    (at : (bit : ℕ) → bit < 64 → 64 * index + bit < length flags
    → has_bit word bit ≡ has_changed flags (64 * index + bit))
    (so : NoneFrom flags end (index + 1)) where
  none_above : (bit : ℕ) → ((other : ℕ) → other < 64 → bit ≤ other → other < end - 64 * index
      → has_bit word other ≡ false)
      → (event : ℕ) → 64 * index + bit ≤ event → event < end → has_changed flags event ≡ false
  none_above bit none event high low = elim (cases_lt event (64 * (index + 1))) [
    | inr behind ↦ so event behind low
    | inl here ↦
        let place : 64 * index + (event - 64 * index) ≡ event = omega (arith, high) in grind arith
  ]

  pub last_flag : (bit : ℕ) → IsLastBit word (end - 64 * index) (Some bit)
      → IsLastFlag flags end (Some (64 * index + bit))
  last_flag bit last =
      let low : 64 * index + bit < end = (let low = last.0 in omega (arith, low)) in (
        low,
        sym (at bit last.1 (omega (arith, low, within))) ∙ last.2,
        λ event above less. none_above (bit + 1)
            (λ other small high few. last.3 other small (omega (arith, high)) few) event
            (omega (arith, above)) less,
      )

pub some_by_last : (flags : Flags) (end : ℕ) (found : Option ℕ) → end ≡ length flags
    → IsLastFlag flags end found → is_some found ≡ some_changed flags
some_by_last flags end None all none =
    sym (fails_below (has_changed flags) (length flags) (λ event low. none event (omega (
      arith,
      low,
      all,
    ))))
some_by_last flags end (Some last) all so =
    sym (passes_below (has_changed flags) (length flags) last
    (let low = so.0 in omega (arith, low, all)) so.1)

-- ---- flags that are set one after the other

pub one_set : (flags : Flags) (event : ℕ) → event < length flags
    → ((other : ℕ) → has_changed flags other ≡ false) → (other : ℕ)
    → has_changed (slice_set flags event true) other ≡ (other == event)
one_set flags event inside none other = grind (
  arith,
  cases_eq,
  get_or-set_at,
  eq-eqb,
  get_or-set_other,
  ne_eqb,
)

pub one_more_set : (flags : Flags) (event : ℕ) → event < length flags
    → ((other : ℕ) → other < event → has_changed flags other ≡ true) → (other : ℕ)
    → other < event + 1 → has_changed (slice_set flags event true) other ≡ true
one_more_set flags event inside so other low = grind (
  arith,
  cases_eq,
  get_or-set_at,
  get_or-set_other,
)
